pub mod Names
pub mod SectionLemmas
pub mod NumberLemmas
