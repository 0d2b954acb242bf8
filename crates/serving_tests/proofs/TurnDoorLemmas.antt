-- What a door of one link does.
use Rattle.std.proofs.Common.{◌≡◌, ◌<◌, Bool, true, false, refl, Ok, Some, None, arith}
use Rattle.std.proofs.Math.Nat.{le_refl}
use Rattle.link_doors.specs.Doors.{Gives, returned_one}
use Rattle.link_doors.specs.Links.{LinkState}
use Rattle.serving_tests.specs.TurnDoors.{turn_door}

-- there is no other link
pub gives_no_other : (has : Bool) → Gives (turn_door true has) (turn_door true has) (Ok None)
gives_no_other true = record { leaves = (refl, refl); owed = le_refl 1 }
gives_no_other false = record { leaves = (refl, refl); owed = omega arith }

-- there never was one
pub gives_none : Gives (turn_door false false) (turn_door false false) (Ok None)
gives_none = record { leaves = (refl, refl); owed = le_refl 0 }

-- the link is given
pub gives_link : (link : LinkState) → Gives (turn_door false true) (turn_door true false) (Ok (Some link))
gives_link link = record { leaves = (le_refl 1, refl); owed = le_refl 0 }

-- the link comes back
pub has_back : (given has : Bool) (link : LinkState) → (turn_door given has).returned < (turn_door given has).given
    → turn_door given true ≡ returned_one (turn_door given has) link
has_back true false link owed = refl
has_back true true link owed = absurd (omega (arith, owed))
has_back false false link owed = absurd (omega (arith, owed))
has_back false true link owed = absurd (omega (arith, owed))
