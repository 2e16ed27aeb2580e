pub mod HistoriesLemmas
pub mod OffersLemmas
pub mod ReservationsLemmas
pub mod RunPromisesLemmas
pub mod RunsLemmas
