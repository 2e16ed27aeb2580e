pub mod OneReport
pub mod SoFarLemmas
pub mod SumLemmas
