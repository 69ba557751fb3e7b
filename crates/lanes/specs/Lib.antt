pub mod Lanes
pub mod Numbered
