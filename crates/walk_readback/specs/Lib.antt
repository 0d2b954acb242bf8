pub mod Found
pub mod GoingBack
pub mod Room
pub mod SettledCosts
pub mod Answers
