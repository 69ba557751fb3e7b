pub mod PlaceLemmas
pub mod RowLemmas
pub mod EntryLemmas
pub mod WordLemmas
pub mod LastLine
