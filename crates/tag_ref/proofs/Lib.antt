pub mod RefSteps
pub mod Halves
