-- Tables of cells, and plans: what a core's row says, and what a plan keeps.
pub mod Homes
pub mod Plans
pub mod Rows
pub mod Segments
pub mod Serves
pub mod Spans
pub mod Spots
pub mod Views
