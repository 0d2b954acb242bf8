pub mod Doors
pub mod Forms
pub mod Links
pub mod Towns
