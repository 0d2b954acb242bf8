pub mod Origin
pub mod Chronicle
pub mod Published
pub mod EndMark
pub mod Readers
pub mod StoreRule
pub mod Faults
