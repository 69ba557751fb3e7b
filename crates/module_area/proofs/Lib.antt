pub mod EntryLemmas
pub mod BookLemmas
pub mod StartLemmas
