pub mod OwnersNamed
pub mod ComingBack
pub mod HandLemmas
pub mod StoredLemmas
pub mod PageLemmas
