pub mod Machine
pub mod Events
pub mod Rounds
pub mod Orders
pub mod Pieces
pub mod Laws
