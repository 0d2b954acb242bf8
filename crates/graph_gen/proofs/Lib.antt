pub mod RangeLemmas
pub mod SequenceLemmas
pub mod WritingLemmas
