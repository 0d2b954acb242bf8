pub mod SpentLemmas
pub mod BegunLemmas
pub mod BudgetLemmas
pub mod FinishedLemmas
pub mod FoundLemmas
pub mod KeptLemmas
