pub mod Cells
pub mod Gives
