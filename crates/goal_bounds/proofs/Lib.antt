pub mod ArcLemmas
pub mod ReverseLemmas
pub mod GoingLemmas
pub mod BoundLemmas
