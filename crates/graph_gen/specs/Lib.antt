pub mod Plans
pub mod Grids
pub mod Sequence
pub mod Texts
pub mod Writing
