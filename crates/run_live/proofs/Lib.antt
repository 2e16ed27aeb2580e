pub mod LiveRunsLemmas
