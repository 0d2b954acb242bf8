pub mod Tokens
pub mod Requests
pub mod Readings
