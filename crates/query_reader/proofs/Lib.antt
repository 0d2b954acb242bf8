pub mod PairFormLemmas
pub mod PairLemmas
pub mod WrittenPairLemmas
