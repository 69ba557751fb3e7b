pub mod Parts
pub mod Decimals
pub mod First
pub mod Chunks
