-- What a town shows to contracts, and what its calls do to it.
use Rattle.std.specs.Prelude.{◌≡◌, ℕ, ◌+◌, ◌≤◌, ltb, Bool, true, List, [], map, length, All, Result, Ok, Err, IfSome, Vec}
use Rattle.std.specs.List.{list_any, range_with_len}
use Rattle.route_io.specs.Causes.{IsCounted, Rose}
use Rattle.link_doors.specs.declared.town.TownFault.{TownFault}
use Rattle.link_doors.specs.declared.town.TownFault.TheVariants as town
use Rattle.link_doors.specs.Doors.{DoorState}

-- a town's faults, and its doors: how many of them are out, and those that it took back
pub record TownState : Type 0 where
  -- how often the town has failed: a count that never falls
  pub faults : ℕ
  -- It was asked to listen, and didn't want memory then.
  pub asked : Bool
  -- how many doors it handed out and hasn't back
  pub lent : ℕ
  -- the doors that were taken back, as they were then
  pub doors : List DoorState

-- Each door has the place at which it stands.
abbrev pub AreNumbered : List DoorState → Type 0
AreNumbered doors = map (λ door. door.place) doors ≡ range_with_len 0 (length doors)

-- The door did nothing yet, and gives at most so many links.
pub record IsNewDoor (links : ℕ) (door : DoorState) : Type 0 where
  pub no_faults : door.faults ≡ 0
  pub within : door.links ≤ links
  pub none_given : door.given ≡ 0
  pub none_returned : door.returned ≡ 0
  pub gave_none : IfSome door.gave (λ known. known ≡ [])
  pub took_none : IfSome door.took (λ known. known ≡ [])

-- The town handed out these doors: one for the operator, which stands first, and one for each lane of sessions.
pub record HandsOut (old new : TownState) (lanes links : ℕ) (doors : List DoorState) : Type 0 where
  pub count : length doors ≡ lanes + 1
  pub places : AreNumbered doors
  pub fresh : All (IsNewDoor links) doors
  pub town : new ≡ record old { asked = true; lent = lanes + 1 }

-- what the answer of a town that was asked to listen shows
abbrev pub doors_shown : {D A : Type 0} → (D → DoorState) → Result (Vec D A) TownFault → Result (List DoorState) TownFault
doors_shown show (Ok doors) = Ok (map show doors.items)
doors_shown show (Err fault) = Err fault

-- A town was asked to listen: it handed out doors, or counted a failure, or wanted memory and is as it was.
abbrev pub Listens : TownState → TownState → ℕ → ℕ → Result (List DoorState) TownFault → Type 0
Listens old new lanes links (Ok doors) = HandsOut old new lanes links doors
Listens old new lanes links (Err town.Failed) =
    (faults : ℕ) × Rose old.faults faults × (new ≡ record old { asked = true; faults = faults })
Listens old new lanes links (Err (town.OutOfMemory want)) = new ≡ old

-- One of these doors has failed.
abbrev pub any_failed : List DoorState → Bool
any_failed doors = list_any (λ door. ltb 0 door.faults) doors

-- A town took its doors back, and counted a failure where one of them has failed.
pub record TakesBack (old new : TownState) (doors : List DoorState) : Type 0 where
  pub doors_are : new.doors ≡ doors
  pub none_out : new.lent ≡ 0
  pub asked : new.asked ≡ old.asked
  pub cause : IsCounted (any_failed doors) old.faults new.faults
