pub mod Members
pub mod Pairs
pub mod Gets
pub mod Least
pub mod Ascending
pub mod FirstDifference
pub mod SetLaws
pub mod OnceLaws
