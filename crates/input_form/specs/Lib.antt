pub mod Codes
pub mod Judging
pub mod Words
pub mod Forms
pub mod Places
pub mod Head
pub mod Reading
pub mod Worked
