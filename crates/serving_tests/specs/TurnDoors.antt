-- Doors of one link.
use Rattle.std.specs.Prelude.{ℕ, Bool, true, false, None}
use Rattle.link_doors.specs.Doors.{DoorState}

-- a door that doesn't fail and doesn't tell its links: how many it gives in all, gave, and has back
abbrev pub silent_door : ℕ → ℕ → ℕ → DoorState
silent_door links given returned = record {
  place = 0;
  faults = 0;
  links = links;
  given = given;
  returned = returned;
  gave = None;
  took = None;
}

-- a door of one link at most, by whether it gave that, and whether it has one
abbrev pub turn_door : Bool → Bool → DoorState
turn_door false false = silent_door 0 0 0
turn_door false true = silent_door 1 0 0
turn_door true false = silent_door 1 1 0
turn_door true true = silent_door 1 1 1
