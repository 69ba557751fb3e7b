pub mod LoadedEntry
pub mod Flags
pub mod Going
