pub mod DocumentLemmas
pub mod HostNames
pub mod OneHost
pub mod OtherKeysLemmas
pub mod TextSetsLemmas
pub mod VcpusLemmas
