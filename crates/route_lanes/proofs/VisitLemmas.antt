-- Links of a door that are served one after another.
use Rattle.std.proofs.Common.{◌≡◌, ℕ, ◌+◌, ◌<◌, Bool, true, false, List, [], ◌∷◌, ◌++◌, Option, Some, None, length, map, take, get_or, append-nil, append_assoc, refl, ap, ap₂, sym, ◌≤◌, ◌∙◌, arith}
use Rattle.std.specs.Prelude.{cond, option_map}
use Rattle.core.specs.Option.{option_or}
use mir.Val.{bool_byte}
use Rattle.std.specs.List.{count_by, sum_by}
use Rattle.std.proofs.lemmas.List.{length-append, map-append, take_more}
use Rattle.std.proofs.lemmas.List.Sums.{sum_by-append, sum_by-cons}
use Rattle.out_of_memory.specs.declared.OutOfMemory.{OutOfMemory}
use Rattle.link_doors.specs.Doors.{DoorState, and_link, given_one, returned_one}
use Rattle.link_doors.specs.Links.{LinkState}
use Rattle.route_lanes.specs.declared.serve.Served.{Served}
use Rattle.route_lanes.specs.declared.visits.DoorTally.{DoorTally}
use Rattle.route_lanes.specs.DoorsServed.{sum_of}
use Rattle.session_core.specs.declared.end.SessionEnd.{SessionEnd}
use Rattle.route_lanes.specs.Visits.{ServedSoFar, ServesLink, Visit, after_visits, first_told, then, want_among, want_of}

-- a test as a number
pub bit_is : (b : Bool) → bool_byte b ≡ cond b 1 0
bit_is true = refl
bit_is false = refl

-- it is 1 at most
pub bit_at_most : (b : Bool) → bool_byte b ≤ 1
bit_at_most true = omega arith
bit_at_most false = omega arith

-- how many of two lists one behind the other pass
pub count_both : {X : Type 0} (p : X → Bool) (xs ys : List X) → count_by p (xs ++ ys) ≡ count_by p xs + count_by p ys
count_both p xs ys = sum_by-append (λ x. cond (p x) 1 0) xs ys

-- how many of the first and the others pass
pub count_first : {X : Type 0} (p : X → Bool) (x : X) (xs : List X) → count_by p (x ∷ xs) ≡ cond (p x) 1 0 + count_by p xs
count_first p x xs = sum_by-cons (λ y. cond (p y) 1 0) x xs

-- one more link is known
known_more : (f : Visit → LinkState) (known : Option (List LinkState)) (visits : List Visit) (visit : Visit)
    → and_link (option_map (λ k. k ++ map f visits) known) (f visit) ≡ option_map (λ k. k ++ map f (visits ++ visit ∷ [])) known
known_more f None visits visit = refl
known_more f (Some k) visits visit =
    ap Some (append_assoc k (map f visits) (f visit ∷ []) ∙ ap (λ more. k ++ more) (sym (map-append f visits (visit ∷ []))))

-- none is
known_still : (f : Visit → LinkState) (known : Option (List LinkState)) → option_map (λ k. k ++ map f []) known ≡ known
known_still f None = refl
known_still f (Some k) = ap Some (append-nil k)

-- a door with these counts and links
abbrev door_with : DoorState → ℕ → ℕ → ℕ → Option (List LinkState) → Option (List LinkState) → DoorState
door_with door faults given returned gave took = record door { faults = faults; given = given; returned = returned; gave = gave; took = took }

-- the door after one more link
pub one_more_visit : (door : DoorState) (visits : List Visit) (visit : Visit) (faults : ℕ)
    → returned_one (given_one (after_visits door visits faults) visit.before) visit.after ≡ after_visits door (visits ++ visit ∷ []) faults
one_more_visit door visits visit faults =
    let count = length-append visits (visit ∷ []) in
    let given : door.given + length visits + 1 ≡ door.given + length (visits ++ visit ∷ []) = omega (arith, count) in
    let returned : door.returned + length visits + 1 ≡ door.returned + length (visits ++ visit ∷ []) = omega (arith, count) in
    let gave = known_more (λ v. v.before) door.gave visits visit in
    let took = known_more (λ v. v.after) door.took visits visit in
    let e : door_with door faults (door.given + length visits + 1) (door.returned + length visits + 1)
    (and_link (option_map (λ k. k ++ map (λ (v : Visit). v.before) visits) door.gave) visit.before)
    (and_link (option_map (λ k. k ++ map (λ (v : Visit). v.after) visits) door.took) visit.after)
    ≡ door_with door faults (door.given + length (visits ++ visit ∷ [])) (door.returned + length (visits ++ visit ∷ []))
    (option_map (λ k. k ++ map (λ (v : Visit). v.before) (visits ++ visit ∷ [])) door.gave)
    (option_map (λ k. k ++ map (λ (v : Visit). v.after) (visits ++ visit ∷ [])) door.took) = cc (given, returned, gave, took) in e

-- the door before its first link
pub before_visits : (door : DoorState) → door ≡ after_visits door [] door.faults
before_visits door =
    let given : door.given ≡ door.given + 0 = omega arith in
    let returned : door.returned ≡ door.returned + 0 = omega arith in
    let gave = known_still (λ v. v.before) door.gave in
    let took = known_still (λ v. v.after) door.took in
    let e : door_with door door.faults door.given door.returned door.gave door.took
    ≡ door_with door door.faults (door.given + 0) (door.returned + 0)
    (option_map (λ k. k ++ map (λ (v : Visit). v.before) []) door.gave) (option_map (λ k. k ++ map (λ (v : Visit). v.after) []) door.took)
    = cc (given, returned, gave, took) in e

-- the same links with another count of faults
pub with_faults : (door now : DoorState) (visits : List Visit) (n faults : ℕ) → now ≡ after_visits door visits n
    → record now { faults = faults } ≡ after_visits door visits faults
with_faults door now visits n faults is = ap (λ (d : DoorState). record d { faults = faults }) is

-- what the first of two lists tells comes before what the other does
pub told_both : {X Y : Type 0} (tells : X → Option Y) (xs ys : List X) → first_told tells (xs ++ ys) ≡ option_or (first_told tells xs) (first_told tells ys)
unfolding first_told
told_both tells [] ys = refl
told_both {X} {Y} tells (x ∷ xs) ys = ap (option_or (tells x)) (told_both tells xs ys) ∙ by (tells x) where
  by : (first : Option Y) → option_or first (option_or (first_told tells xs) (first_told tells ys))
      ≡ option_or (option_or first (first_told tells xs)) (first_told tells ys)
  by None = refl
  by (Some y) = refl

-- nothing told behind something changes nothing
told_last : {Y : Type 0} (last : Option Y) → option_or last None ≡ last
told_last None = refl
told_last (Some y) = refl

-- the first want of memory, with one more link
pub one_more_want : (visits : List Visit) (visit : Visit) (want : Option OutOfMemory) → want ≡ want_among visits
    → option_or want (want_of visit.end) ≡ want_among (visits ++ visit ∷ [])
unfolding first_told
one_more_want visits visit want is =
    ap₂ option_or is (sym (told_last (want_of visit.end))) ∙ sym (told_both (λ (v : Visit). want_of v.end) visits (visit ∷ []))

-- what became of the first door
pub first_sum : (tally : DoorTally) → record { failed = bool_byte tally.failed; want = tally.want } ≡ sum_of (tally ∷ [])
unfolding first_told
first_sum tally =
    let served : ℕ → Option OutOfMemory → Served = λ f w. record { failed = f; want = w } in
    let failed = count_first (λ (t : DoorTally). t.failed) tally [] in
    let none : count_by (λ (t : DoorTally). t.failed) [] ≡ 0 = refl in
    ap₂ served (omega (arith, bit_is tally.failed, failed, none)) (sym (told_last tally.want))

-- what became of one door more
pub sum_more : (tallies : List DoorTally) (tally : DoorTally) → record {
  failed = (sum_of tallies).failed + bool_byte tally.failed;
  want = option_or (sum_of tallies).want tally.want;
} ≡ sum_of (tallies ++ tally ∷ [])
unfolding first_told
sum_more tallies tally =
    let served : ℕ → Option OutOfMemory → Served = λ f w. record { failed = f; want = w } in
    let failed = count_both (λ (t : DoorTally). t.failed) tallies (tally ∷ []) in
    let one = count_first (λ (t : DoorTally). t.failed) tally [] in
    let none : count_by (λ (t : DoorTally). t.failed) [] ≡ 0 = refl in
    ap₂ served (omega (arith, bit_is tally.failed, failed, one, none))
    (ap (option_or (sum_of tallies).want) (sym (told_last tally.want)) ∙ sym (told_both (λ (t : DoorTally). t.want) tallies (tally ∷ [])))

-- the doors up to the next one
pub sum_next : {L : Type 0} (tally_of : L → DoorTally) (first : DoorTally) (lanes : List L) (k : ℕ) (lane : L) → k < length lanes
    → lane ≡ get_or lanes k lane
    → sum_of ((first ∷ map tally_of (take k lanes)) ++ tally_of lane ∷ []) ≡ sum_of (first ∷ map tally_of (take (k + 1) lanes))
sum_next {L} tally_of first lanes k lane within is =
    let next = ap (map tally_of) (take_more lanes k lane within) ∙ map-append tally_of (take k lanes) (get_or lanes k lane ∷ []) in
    let same = ap (λ (l : L). map tally_of (take k lanes) ++ tally_of l ∷ []) is in
    ap (λ (tallies : List DoorTally). sum_of (first ∷ tallies)) (same ∙ sym next)

-- one link more was served and given back
pub so_far_more : {P : Type 0} (Visits : P → LinkState → LinkState → SessionEnd → P → Type 0) (first mid last : P) (before old new : DoorState)
    (want more : Option OutOfMemory) (end : SessionEnd) → ServedSoFar Visits first mid before old want → ServesLink Visits mid last old new end
    → more ≡ option_or want (want_of end) → ServedSoFar Visits first last before new more
so_far_more Visits first mid last before old new want more end so_far one joined =
    let visit : Visit = record { before = one.before; after = one.left; end = end } in
    let given = ap (λ (d : DoorState). returned_one (given_one d one.before) one.left) so_far.back in record {
      visits = so_far.visits ++ visit ∷ [];
      led = then visit so_far.led one.visits;
      back = one.back ∙ given ∙ one_more_visit before so_far.visits visit before.faults;
      wants = joined ∙ one_more_want so_far.visits visit want so_far.wants;
    }
