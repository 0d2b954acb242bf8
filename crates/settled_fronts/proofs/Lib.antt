pub mod ListLemmas
pub mod PlacedLemmas
pub mod PairLemmas
pub mod SharingLemmas
pub mod SettlingLemmas
