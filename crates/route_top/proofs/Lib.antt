pub mod SentFirst
pub mod LanesSent
pub mod LaneScripts
mod ServedScripts
mod LanesRuns
pub mod ServeLemmas
pub mod NumberedFiles
pub mod FeedLines
pub mod FollowFeeds
pub mod FollowedScripts
pub mod FollowRuns
mod LeaderFeeds
mod WrittenFeeds
pub mod OutputLemmas
