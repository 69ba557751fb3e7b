pub mod Stepping
pub mod Totals
pub mod Lines
pub mod Numbers
pub mod ReachedLemmas
pub mod ReadOn
