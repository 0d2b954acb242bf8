pub mod BoundLaws
pub mod GoalLaws
pub mod FoundGoalLaws
