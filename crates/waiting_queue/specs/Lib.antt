pub mod Passing
pub mod Shadows
pub mod Taking
pub mod Joining
pub mod Ranges
pub mod Filling
