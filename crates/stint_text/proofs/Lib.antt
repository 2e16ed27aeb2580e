pub mod GatheredLemmas
pub mod NearLemmas
pub mod NumbersLineLemmas
pub mod RoomLemmas
pub mod StintLineLemmas
