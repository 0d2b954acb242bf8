pub mod Costs
pub mod LimitOrder
pub mod Places
