pub mod Kept
pub mod Parting
pub mod HooksOut
pub mod Shown
pub mod Working
pub mod Cells
