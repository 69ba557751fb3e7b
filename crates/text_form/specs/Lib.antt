pub mod Lines
pub mod Words
pub mod Numbers
pub mod Cut
pub mod CutWords
