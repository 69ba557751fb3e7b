pub mod Vectors
pub mod Lending
