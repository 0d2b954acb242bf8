pub mod Settled
pub mod Leaving
pub mod Limits
