pub mod Fronts
pub mod Staircase
pub mod Blocks
pub mod Corners
