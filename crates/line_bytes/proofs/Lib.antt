pub mod BlockLemmas
pub mod RoomLemmas
pub mod TailLemmas
