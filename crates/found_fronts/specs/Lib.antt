pub mod FoundFronts
pub mod FoundAtWidth
pub mod Findings
