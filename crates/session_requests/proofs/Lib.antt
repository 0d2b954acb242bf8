pub mod EachLemmas
pub mod WritesLemmas
pub mod LineLemmas
pub mod AsksOfSessionLemmas
pub mod AsksOfOperatorLemmas
