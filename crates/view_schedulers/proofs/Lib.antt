pub mod FaultLemmas
pub mod FitLemmas
pub mod KeptLemmas
pub mod LineLemmas
pub mod PeriodLemmas
pub mod RoomLemmas
pub mod SupplyLemmas
mod CpuListLemmas
