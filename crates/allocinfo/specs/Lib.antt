pub mod Text
pub mod Rank
