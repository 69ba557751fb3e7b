pub mod Order
pub mod Found
pub mod Rising
pub mod Left
