pub mod RunsLemmas
pub mod QueryLemmas
mod ProveLemmas
pub mod FilesReadLemmas
mod VerifyLemmas
pub mod BatchLemmas
mod AheadLemmas
pub mod OutputLemmas
pub mod PlanLemmas
pub mod CountLemmas
