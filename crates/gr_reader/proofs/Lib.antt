pub mod FileLemmas
pub mod StepsLemmas
pub mod LawsLemmas
pub mod ReadsIntoLemmas
pub mod WeightLemmas
pub mod WrittenFileLemmas
pub mod WrittenWeightLemmas
