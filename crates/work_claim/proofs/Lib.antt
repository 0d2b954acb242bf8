mod ClaimLemmas
mod OrderLemmas
