pub mod ModuleName
pub mod Section
pub mod Numbers
pub mod Refusals
