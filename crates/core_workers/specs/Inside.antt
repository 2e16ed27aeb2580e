pub mod Making
pub mod Players
