pub mod Cuts
pub mod Numbers
pub mod Place
pub mod Line
pub mod Views
pub mod Grammar
pub mod Reading
pub mod ReadBack
