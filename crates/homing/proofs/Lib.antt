pub mod SeatLemmas
mod CpuLemmas
pub mod WorkerLemmas
mod Turns
pub mod Checked
