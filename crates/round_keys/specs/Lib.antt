pub mod Handed
pub mod Handing
pub mod Pages
pub mod Stored
