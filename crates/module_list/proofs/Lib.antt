pub mod At
pub mod Bare
pub mod Keeps
pub mod Changes
pub mod Written
pub mod Methods
