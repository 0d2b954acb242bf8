pub mod GroupLemmas
pub mod OnwardLemmas
pub mod SurvivorLemmas
