pub mod FileLemmas
pub mod OffersLemmas
pub mod ReadsLemmas
pub mod SendsLemmas
