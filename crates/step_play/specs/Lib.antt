pub mod Acts
pub mod Printed
pub mod Schedule
pub mod Playing
pub mod Reached
pub mod Rows
