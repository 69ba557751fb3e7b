pub mod Modules
