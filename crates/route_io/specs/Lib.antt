pub mod Calls
pub mod Causes
pub mod Files
pub mod Forms
pub mod Sinks
pub mod Sources
