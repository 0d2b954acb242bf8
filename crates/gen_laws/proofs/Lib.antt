pub mod AgreeLemmas
pub mod CostLemmas
pub mod GridLemmas
pub mod PairLemmas
pub mod WeightLemmas
pub mod ZipLemmas
