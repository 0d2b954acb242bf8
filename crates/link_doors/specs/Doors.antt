-- What a door shows to contracts, and what its calls do to it.
use Rattle.std.specs.Prelude.{◌≡◌, ℕ, ◌+◌, ◌<◌, ◌≤◌, List, [], ◌∷◌, ◌++◌, Option, Some, None, Result, Ok, Err, option_map}
use Rattle.route_io.specs.declared.fault.Failed.{Failed}
use Rattle.route_io.specs.Causes.{Rose}
use Rattle.link_doors.specs.Links.{LinkState}

-- a door's place among those of its town, its faults, and its links: how many it gives in all, gave, and has back
pub record DoorState : Type 0 where
  pub place : ℕ
  -- how often the door has failed: a count that never falls
  pub faults : ℕ
  -- how many links the door gives before it has ended
  pub links : ℕ
  -- how many links it gave
  pub given : ℕ
  -- how many of these were given back
  pub returned : ℕ
  -- the links that it gave, as they were then, where the door tells them
  pub gave : Option (List LinkState)
  -- the links that were given back, as they were then, where the door tells them
  pub took : Option (List LinkState)

-- The last link was given, or there never was one.
abbrev pub HasEnded : DoorState → Type 0
HasEnded door = door.given ≡ door.links

-- the list with a link at its end, where the list is told
abbrev pub and_link : Option (List LinkState) → LinkState → Option (List LinkState)
and_link links link = option_map (λ known. known ++ link ∷ []) links

-- the door after it gave this link
abbrev pub given_one : DoorState → LinkState → DoorState
given_one door link = record door { given = door.given + 1; gave = and_link door.gave link }

-- the door after this link was given back
abbrev pub returned_one : DoorState → LinkState → DoorState
returned_one door link = record door { returned = door.returned + 1; took = and_link door.took link }

-- what the answer of a call for the next link shows
abbrev pub next_shown : {L : Type 0} → (L → LinkState) → Result (Option L) Failed → Result (Option LinkState) Failed
next_shown show (Ok next) = Ok (option_map show next)
next_shown show (Err fault) = Err fault

-- what that call leaves: it gave a link, or the door has ended, or a failure was counted
abbrev pub NextLeaves : DoorState → DoorState → Result (Option LinkState) Failed → Type 0
NextLeaves old new (Ok (Some link)) = (old.given < old.links) × (new ≡ given_one old link)
NextLeaves old new (Ok None) = HasEnded old × (new ≡ old)
NextLeaves old new (Err fault) = (faults : ℕ) × Rose old.faults faults × (new ≡ record old { faults = faults })

-- One call for the next link. Never are more links given back than were given.
pub record Gives (old new : DoorState) (result : Result (Option LinkState) Failed) : Type 0 where
  pub leaves : NextLeaves old new result
  pub owed : old.returned ≤ old.given
