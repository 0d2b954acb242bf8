mod BareLemmas
mod FindingLemmas
