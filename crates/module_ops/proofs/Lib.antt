pub mod ReadOn
pub mod Sweeping
