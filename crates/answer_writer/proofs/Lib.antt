pub mod GathersLemmas
pub mod RouteLemmas
