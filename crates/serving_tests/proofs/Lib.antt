pub mod TurnDoorLemmas
