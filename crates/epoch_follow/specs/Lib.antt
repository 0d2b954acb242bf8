pub mod Text
pub mod Runs
pub mod Takes
pub mod Reads
pub mod Followers
