pub mod Commands
pub mod Running
pub mod Serving
pub mod Spelling
