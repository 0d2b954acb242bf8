pub mod Finding
pub mod Swept
pub mod Answers
