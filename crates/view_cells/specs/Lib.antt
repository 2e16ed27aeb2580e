pub mod CellTexts
pub mod Cells
