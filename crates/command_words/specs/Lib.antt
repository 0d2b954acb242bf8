pub mod Apps
pub mod Ranges
pub mod Words
