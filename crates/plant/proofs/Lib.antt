pub mod Dealing
pub mod Dealt
pub mod PoolLemmas
pub mod WorkerLemmas
pub mod WordLemmas
