pub mod ReplyLemmas
mod MakingLemmas
mod WindowLemmas
mod LineKindLemmas
mod AnswersLineLemmas
pub mod StayLemmas
mod WaitLemmas
mod RunLemmas
mod OperatorRunLemmas
mod LinesLemmas
mod FeedLemmas
mod ServesLemmas
mod GoalLemmas
