pub mod ServiceLemmas
pub mod LearnLemmas
pub mod SaidLemmas
pub mod LaneLemmas
pub mod ReportLemmas
pub mod VisitLemmas
pub mod ServingLemmas
pub mod DoorLaneLemmas
pub mod FeedLemmas
pub mod FollowLemmas
mod FollowedLemmas
pub mod LeaderLemmas
