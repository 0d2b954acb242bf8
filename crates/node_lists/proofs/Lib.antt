mod KeptLemmas
mod LoweredLemmas
mod FoundLemmas
