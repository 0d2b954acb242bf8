pub mod JoiningLemmas
pub mod OrderLemmas
pub mod PassingLemmas
pub mod RangeLemmas
pub mod ShadowLemmas
pub mod TakingLemmas
