pub mod Frames
pub mod Bits
