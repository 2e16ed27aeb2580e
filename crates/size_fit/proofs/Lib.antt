mod LoadLemmas
mod MoreLemmas
mod NameLemmas
mod SplitLemmas
