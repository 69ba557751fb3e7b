pub mod KeyLemmas
pub mod NameLemmas
pub mod TallyLemmas
pub mod GroupingLemmas
pub mod TotalLemmas
