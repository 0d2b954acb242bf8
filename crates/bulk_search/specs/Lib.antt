pub mod Counting
pub mod Rounds
pub mod Widths
