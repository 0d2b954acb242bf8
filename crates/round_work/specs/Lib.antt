pub mod Groups
pub mod Onward
pub mod Pieces
pub mod Survivors
