pub mod Entries
pub mod Area
