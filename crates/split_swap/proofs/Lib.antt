pub mod Hands
pub mod Halving
