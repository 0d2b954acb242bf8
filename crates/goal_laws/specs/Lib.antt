pub mod Goal
pub mod FoundGoal
