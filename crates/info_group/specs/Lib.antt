pub mod Keys
pub mod Grouping
pub mod Tally
pub mod Laws
pub mod Text
pub mod Worked
