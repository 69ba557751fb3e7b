pub mod Listing
pub mod Stages
