-- The doors that a town hands out and takes back.
use Rattle.std.proofs.Common.{◌≡◌, ℕ, zero, suc, ◌+◌, ◌≤◌, true, ◌||◌, ltb, List, [], ◌∷◌, ◌++◌, map, length, drop, get_or, refl, sym, ◌∙◌, ap, ap₂, arith}
use native.Mathlib.Numerals.{unary_clauses}
use Rattle.std.specs.Prelude.{All, Vec, vec_len, vec_capacity}
use Rattle.std.specs.List.{list_any, range_with_len}
use Rattle.std.proofs.lemmas.List.Elements.{All-map, All-head, All-tail}
use Rattle.std.proofs.lemmas.List.{get_or-drop, length-map, length-take}
use Rattle.std.proofs.lemmas.List.FromFn.{length-map-range_with_len, map-range_with_len_more}
use Rattle.link_doors.specs.Doors.{DoorState}
use Rattle.link_doors.specs.Forms.{MemoryDoor, IsUnused, door_with, placed, handed_out, memory_door_state, memory_link_state, new_host_door, new_host_doors, host_door_state}
use Rattle.link_doors.specs.Towns.{TownState, IsNewDoor, HandsOut, any_failed}

module _ {D : Type 0} (show : D → DoorState) where
  -- one of these doors has failed, by what they show
  pub any_failed_shown : (doors : List D) → list_any (λ door. ltb 0 (show door).faults) doors ≡ any_failed (map show doors)
  any_failed_shown [] = refl
  any_failed_shown (door ∷ doors) = ap (λ rest. ltb 0 (show door).faults || rest) (any_failed_shown doors)

  -- a door for each place, which is new and stands there
  module _ (make : ℕ → D) (stands : (place : ℕ) → (show (make place)).place ≡ place) where
    places : (numbers : List ℕ) → map (λ (door : DoorState). door.place) (map show (map make numbers)) ≡ numbers
    places [] = refl
    places (n ∷ numbers) = ap₂ ◌∷◌ (stands n) (places numbers)

    count : (n : ℕ) → length (map show (map make (range_with_len 0 n))) ≡ n
    count n = length-map _ show ∙ length-map-range_with_len make 0 n

    pub hands_out : (old new : TownState) (lanes links : ℕ) → ((place : ℕ) → IsNewDoor links (show (make place)))
        → new ≡ record old { asked = true; lent = lanes + 1 } → HandsOut old new lanes links (map show (map make (range_with_len 0 (lanes + 1))))
    hands_out old new lanes links is_new changed =
        let numbers : List ℕ = range_with_len 0 (lanes + 1) in
        record {
          count = count (lanes + 1);
          places = places numbers ∙ ap (range_with_len 0) (sym (count (lanes + 1)));
          fresh = All-map (IsNewDoor links) show (map make numbers)
              (All-map (λ door. IsNewDoor links (show door)) make numbers (λ k d inside. is_new _));
          town = changed;
        }

-- what waits is unused, and so is the door that stands where none waits
unused_at : (waiting : List MemoryDoor) (place : ℕ) → All IsUnused waiting → IsUnused (get_or waiting place (door_with [] []))
unused_at [] place all = record { gave_none = refl; took_none = refl; no_faults = refl }
unused_at (door ∷ doors) zero all = All-head IsUnused door doors all
unused_at (door ∷ doors) (suc n) all = unused_at doors n (All-tail IsUnused door doors all)

-- an unused door is new wherever it is put
new_from_unused : (links place : ℕ) (door : MemoryDoor) → IsUnused door → IsNewDoor links (memory_door_state (placed links place door))
new_from_unused links place door unused = record {
  no_faults = unused.no_faults;
  within = omega (arith, ap length unused.gave_none, length-take links door.rest);
  none_given = ap length unused.gave_none;
  none_returned = ap length unused.took_none;
  gave_none = ap (map memory_link_state) unused.gave_none;
  took_none = ap (map memory_link_state) unused.took_none;
}

-- a town in memory hands out doors that are new
pub memory_hands_out : (waiting : List MemoryDoor) (old new : TownState) (lanes links : ℕ) → All IsUnused waiting
    → new ≡ record old { asked = true; lent = lanes + 1 }
    → HandsOut old new lanes links (map memory_door_state (handed_out links (lanes + 1) waiting))
memory_hands_out waiting old new lanes links unused =
    let make : ℕ → MemoryDoor = λ place. placed links place (get_or waiting place (door_with [] [])) in
    hands_out memory_door_state make (λ place. refl) old new lanes links
    (λ place. new_from_unused links place (get_or waiting place (door_with [] [])) (unused_at waiting place unused))

-- the doors of the first places are out, in a list that has room for all, and the others wait
pub record OutSoFar {A : Type 0} (all waiting : List MemoryDoor) (doors : Vec MemoryDoor A) (links count place : ℕ) : Type 0 where
  pub within : place ≤ count
  pub long : vec_len doors ≡ place
  pub room : count ≤ vec_capacity doors
  pub left : waiting ≡ drop place all
  pub out : doors.items ≡ handed_out links place all

-- the next door is out: the first that waits, or one without links
pub next_out : (all waiting : List MemoryDoor) (links place : ℕ) (out after : List MemoryDoor) (door put : MemoryDoor)
    → waiting ≡ drop place all → out ≡ handed_out links place all → door ≡ get_or waiting 0 (door_with [] [])
    → put ≡ placed links place door → after ≡ out ++ put ∷ [] → after ≡ handed_out links (place + 1) all
next_out all waiting links place out after door put left before is_next is_put is_after =
    let make : ℕ → MemoryDoor = λ n. placed links n (get_or all n (door_with [] [])) in
    let next : door ≡ get_or all place (door_with [] []) =
    is_next ∙ ap (λ doors. get_or doors 0 (door_with [] [])) left
    ∙ simp unary_clauses at (get_or-drop place all 0 (door_with [] [])) in
    is_after ∙ ap₂ (λ xs d. xs ++ d ∷ []) before (is_put ∙ ap (placed links place) next)
    ∙ sym (map-range_with_len_more make 0 place place (omega arith))

-- so does a town of the host
pub host_hands_out : (old new : TownState) (lanes links : ℕ) → new ≡ record old { asked = true; lent = lanes + 1 }
    → HandsOut old new lanes links (map host_door_state (new_host_doors links (lanes + 1)))
host_hands_out old new lanes links =
    hands_out host_door_state (new_host_door links) (λ place. refl) old new lanes links
    (λ place. record { no_faults = refl; within = omega arith; none_given = refl; none_returned = refl; gave_none = tt; took_none = tt })
