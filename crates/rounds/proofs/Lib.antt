mod Begun
mod DeskDealt
mod EndNumbers
pub mod LoadsAt
pub mod PrintsAt
mod Settled
mod TurnedDesk
mod TurnedLanes
