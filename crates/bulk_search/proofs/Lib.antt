pub mod TaskLemmas
pub mod LoopLemmas
pub mod OnwardLemmas
