-- What becomes of a door whose links are served, one after another.
use Rattle.std.specs.Prelude.{◌≡◌, ℕ, ◌+◌, ◌<◌, false, List, [], ◌∷◌, ◌++◌, Option, Some, None, Result, Ok, Err}
use Rattle.std.specs.Prelude.{length, map, option_map}
use Rattle.std.specs.Borrow.{Bor, MutBor}
use Rattle.out_of_memory.specs.declared.OutOfMemory.{OutOfMemory}
use Rattle.core.specs.Option.{option_or}
use Rattle.route_io.specs.Causes.{IsCounted, Rose}
use Rattle.route_io.specs.declared.fault.Failed.{Failed}
use Rattle.link_doors.specs.Doors.{DoorState, HasEnded, given_one, returned_one}
use Rattle.link_doors.specs.Links.{LinkState}
use Rattle.session_core.specs.declared.end.SessionEnd.{SessionEnd}
use Rattle.session_core.specs.declared.end.SessionEnd.TheVariants as ended
use Rattle.route_lanes.specs.declared.visits.DoorTally.{DoorTally}

-- a link that was served: what it showed when the door gave it and when it was given back, and how its serving ended
pub record Visit : Type 0 where
  pub before : LinkState
  pub after : LinkState
  pub end : SessionEnd

-- the want of memory that ended the serving of a link
abbrev pub want_of : SessionEnd → Option OutOfMemory
want_of (ended.OutOfMemory want) = Some want
want_of end = None

-- the first thing that one of these tells
unfoldable pub first_told : {X Y : Type 0} → (X → Option Y) → List X → Option Y
first_told tells [] = None
first_told tells (x ∷ xs) = option_or (tells x) (first_told tells xs)

-- the first want of memory that ended one of these links
abbrev pub want_among : List Visit → Option OutOfMemory
want_among visits = first_told (λ visit. want_of visit.end) visits

-- these links, served one after another, led a party from there to here, where `Visits` says what serving one does
pub data Led {P : Type 0} (Visits : P → LinkState → LinkState → SessionEnd → P → Type 0) (first : P) : List Visit → P → Type 0
  where
    -- there was no link
    unvisited : Led Visits first [] first
    -- one more link
    then : {visits : List Visit} {mid last : P} (visit : Visit) → Led Visits first visits mid
        → Visits mid visit.before visit.after visit.end last → Led Visits first (visits ++ visit ∷ []) last

-- the door after it gave these links and has each of them back, with this count of faults
abbrev pub after_visits : DoorState → List Visit → ℕ → DoorState
after_visits door visits faults = record door {
  faults = faults;
  given = door.given + length visits;
  returned = door.returned + length visits;
  gave = option_map (λ known. known ++ map (λ visit. visit.before) visits) door.gave;
  took = option_map (λ known. known ++ map (λ visit. visit.after) visits) door.took;
}

-- The next link of a door was served.
pub record ServesLink {P : Type 0} (Visits : P → LinkState → LinkState → SessionEnd → P → Type 0) (old new : P)
    (door after : DoorState) (end : SessionEnd) : Type 0 where
  pub before : LinkState
  pub left : LinkState
  pub some : door.given < door.links
  pub visits : Visits old before left end new
  pub back : after ≡ returned_one (given_one door before) left

-- what becomes of the next link: it was served and given back, or there is none, or the door failed
abbrev pub ServesNext : {P : Type 0} → (P → LinkState → LinkState → SessionEnd → P → Type 0) → P → P → DoorState → DoorState
    → Result (Option SessionEnd) Failed → Type 0
ServesNext Visits old new door after (Ok (Some end)) = ServesLink Visits old new door after end
ServesNext Visits old new door after (Ok None) = HasEnded door × (after ≡ door) × (new ≡ old)
ServesNext Visits old new door after (Err fault) =
    (faults : ℕ) × Rose door.faults faults × (after ≡ record door { faults = faults }) × (new ≡ old)

-- So far these links of a door were served and given back, and no call of it failed.
pub record ServedSoFar {P : Type 0} (Visits : P → LinkState → LinkState → SessionEnd → P → Type 0) (first last : P)
    (before now : DoorState) (want : Option OutOfMemory) : Type 0 where
  pub visits : List Visit
  pub led : Led Visits first visits last
  pub back : now ≡ after_visits before visits before.faults
  pub wants : want ≡ want_among visits

-- All links of a door were served and given back, until it had ended or failed.
pub record ServesDoor {P : Type 0} (Visits : P → LinkState → LinkState → SessionEnd → P → Type 0) (first last : P)
    (before after : DoorState) (tally : DoorTally) : Type 0 where
  pub visits : List Visit
  pub led : Led Visits first visits last
  pub back : after ≡ after_visits before visits after.faults
  pub cause : IsCounted tally.failed before.faults after.faults
  pub ended : tally.failed ≡ false → HasEnded after
  pub wants : tally.want ≡ want_among visits

-- a link can be served in each setting that is ready for it
abbrev pub IsCallableIn : {C P L : Type 0} → (C → P → Type 0) → (Bor C → MutBor P → MutBor L → Type 0) → Type 0
IsCallableIn {C} {P} {L} Ready Asks =
    (setting : Bor C) (party : MutBor P) (link : MutBor L) → Ready setting.now party.now → Asks setting party link

-- Each call of this kind serves a link, where `Visits` says what that does and `show` what links show, and the next one can be
-- served.
abbrev pub AttendsEach : {C P L : Type 0} → (C → P → Type 0) → (C → P → LinkState → LinkState → SessionEnd → P → Type 0)
    → (L → LinkState) → (Bor C → MutBor P → MutBor L → SessionEnd → MutBor P → MutBor L → Type 0) → Type 0
AttendsEach {C} {P} {L} Ready Visits show Gives =
    (setting : Bor C) (party : MutBor P) (link : MutBor L) (end : SessionEnd) (after : MutBor P) (left : MutBor L)
    → Ready setting.now party.now → Gives setting party link end after left
    → Visits setting.now party.now (show link.now) (show left.now) end after.now × Ready setting.now after.now
