pub mod Machine
pub mod Reserved
pub mod MayQueue
pub mod Needs
