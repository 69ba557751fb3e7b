pub mod Unhooked
