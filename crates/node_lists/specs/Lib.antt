pub mod KeptLists
pub mod FoundLists
