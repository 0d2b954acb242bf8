pub mod Grammar
pub mod PairForms
pub mod Answers
pub mod Laws
