pub mod BoundLemmas
pub mod GeneratedLemmas
pub mod HostTextLemmas
pub mod PlanningLemmas
pub mod PercentLemmas
