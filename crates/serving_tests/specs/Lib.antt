pub mod TurnDoors
