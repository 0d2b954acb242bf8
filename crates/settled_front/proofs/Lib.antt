pub mod Stairs
pub mod Views
pub mod BlockLanes
pub mod Covers
pub mod Cornering
pub mod Listing
pub mod LaneBits
pub mod Orders
