pub mod Alike
pub mod Bits
pub mod Edited
pub mod Lists
pub mod Periods
pub mod TimelineLemmas
pub mod Totals
pub mod VcpusLemmas
