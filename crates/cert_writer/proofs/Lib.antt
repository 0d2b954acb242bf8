pub mod LabelLemmas
pub mod WrittenLemmas
