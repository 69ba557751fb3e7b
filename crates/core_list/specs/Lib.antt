pub mod ListState
