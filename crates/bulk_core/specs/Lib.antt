pub mod Settled
pub mod Kept
