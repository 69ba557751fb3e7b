pub mod Fresh
pub mod Table
