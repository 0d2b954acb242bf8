pub mod WalkLaws
pub mod SumLaws
pub mod Reached
pub mod BestLaws
pub mod FiniteLaws
pub mod BackwardLaws
pub mod AnswerLaws
pub mod RelevantLaws
