pub mod TownLemmas
