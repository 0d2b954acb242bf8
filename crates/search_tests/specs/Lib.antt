pub mod KnownCosts
