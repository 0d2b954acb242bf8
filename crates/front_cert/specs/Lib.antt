pub mod Offsets
pub mod Listing
pub mod Found
pub mod Lookup
pub mod Text
pub mod Checks
pub mod Passed
pub mod Reads
