pub mod LetterLemmas
pub mod WindowLemmas
