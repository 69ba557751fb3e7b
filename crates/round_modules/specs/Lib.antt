pub mod Known
pub mod Inside
pub mod Loads
pub mod Meant
