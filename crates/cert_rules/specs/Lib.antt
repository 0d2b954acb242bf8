pub mod Certificates
pub mod Rules
pub mod Meaning
