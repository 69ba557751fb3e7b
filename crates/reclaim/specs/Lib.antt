pub mod State
pub mod Steps
pub mod Sweeps
pub mod Refusals
pub mod Loading
pub mod Telling
pub mod Quiet
pub mod Tied
