pub mod TurnParts
pub mod Turns
pub mod Places
