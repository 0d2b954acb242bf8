pub mod NodeFronts
pub mod Settling
pub mod Sharing
