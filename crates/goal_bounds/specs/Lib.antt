pub mod Reverse
pub mod Bounds
