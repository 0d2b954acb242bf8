pub mod Limits
pub mod Network
pub mod Walks
pub mod Best
pub mod Answers
pub mod Labels
pub mod Queries
