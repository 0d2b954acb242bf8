pub mod ListLemmas
pub mod SpentLemmas
pub mod StartLemmas
pub mod SettlingLemmas
pub mod KeptLemmas
pub mod BeginLemmas
pub mod FinishLemmas
