pub mod Items
pub mod Runs
