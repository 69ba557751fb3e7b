pub mod CpuState
pub mod Cpus
pub mod Tables
pub mod Keys
pub mod Formed
pub mod Walk
pub mod Rounds
pub mod Rows
