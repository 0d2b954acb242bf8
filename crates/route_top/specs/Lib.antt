pub mod Lanes
pub mod Serve
pub mod Follow
pub mod Followed
pub mod Ends
pub mod Scripts
