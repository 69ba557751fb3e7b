pub mod Blocks
pub mod Shown
pub mod Paging
pub mod Lending
