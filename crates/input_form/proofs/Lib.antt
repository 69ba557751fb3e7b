pub mod Judged
pub mod Colons
pub mod Sections
pub mod WordForm
pub mod HeadForm
pub mod LineForm
