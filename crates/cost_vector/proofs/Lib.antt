pub mod Stored
pub mod Sums
pub mod Vectors
pub mod Components
