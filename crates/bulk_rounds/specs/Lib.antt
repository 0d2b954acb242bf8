pub mod Cores
pub mod Taking
pub mod Standing
pub mod Begins
pub mod Finishes
pub mod Kept
