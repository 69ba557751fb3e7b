pub mod Orders
pub mod Runs
pub mod FrameLemmas
pub mod ZoneLemmas
