-- A search among stored pairs that stand as a staircase.
use Rattle.std.proofs.Common.{◌≡◌, ℕ, ◌-◌, ◌<◌, ◌≤◌, List, [], length, get_or, map, inl, inr, refl, arith}
use Rattle.std.specs.List.{AllWithin}
use Rattle.std.specs.List.Sorted.{IsNonDecreasingBy, IsPartitionPoint}
use Rattle.std.proofs.lemmas.Bool.{cases_lt}
use Rattle.std.proofs.lemmas.List.{get_or-map, length-map}
use Rattle.std.proofs.lemmas.Option.{slice_get_cases}
use Rattle.settled_front.specs.Staircase.{IsStaircase, IsUpTo, first, second}
use Rattle.settled_list.specs.Stairs.{IsPlaceFor, as_pair}
use Rattle.settled_list.specs.declared.staircase.Rest.{Rest}
use Rattle.settled_list.proofs.Places.{pair_at_most}

module _ {P : Type 0} (value : P → ℕ) (rests : List (Rest P)) (s : IsStaircase (map (as_pair value) rests)) where
  abbrev pairs : List (List ℕ)
  pairs = map (as_pair value) rests

  -- the components of one of them
  pub pair_at : (k : ℕ) (d : Rest P) → k < length rests
      → (value (get_or rests k d).second ≡ first (get_or pairs k [])) × (value (get_or rests k d).third ≡ second (get_or pairs k []))
  pair_at k d within = let is = get_or-map (as_pair value) rests k d [] within in rw is (refl, refl)

  some_at : (k : ℕ) → k < length rests → Rest P
  some_at k within = elim (slice_get_cases rests k).1 [ inl h ↦ h.0 | inr past ↦ absurd (omega (arith, within, past.0)) ]

  -- the second components rise
  pub rising : IsNonDecreasingBy (λ r. value r.second) rests
  rising i j d order within =
      let here = (pair_at i d (omega (arith, order, within))).0 in
      let there = (pair_at j d within).0 in
      elim (cases_lt i j) [
        | inl before ↦ omega (arith, here, there, (s.descends i j [] before (omega (arith, within, length-map rests (as_pair value)))).0)
        | inr same ↦ let is : i ≡ j = omega (arith, order, same) in rw is (omega arith)
      ]

  module _ (t place : ℕ) (cut : IsUpTo pairs t place) where
    -- where the last of those that aren't greater isn't less either, those before it are less
    pub below_last : (last : Rest P) → 0 < place → t ≤ value (get_or rests (place - 1) last).second
        → IsPartitionPoint (λ r. value r.second < t) (λ r. t ≤ value r.second) rests (place - 1)
    below_last last some same =
        let long = length-map rests (as_pair value) in
        let inside : place - 1 < length rests = omega (arith, some, cut.within, long) in (
          λ k d from near. omega (
            arith,
            (pair_at k d (omega (arith, near, inside))).0,
            (s.descends k (place - 1) [] near (omega (arith, inside, long))).0,
            cut.before (place - 1) (omega (arith, some)),
          ),
          λ k d far within. omega (arith, same, (pair_at (place - 1) last inside).0, (pair_at (place - 1) d inside).0, rising (place - 1) k d far within),
        )

    -- where the last of them is less, all are
    pub below_all : (0 < place → first (get_or pairs (place - 1) []) < t)
        → IsPartitionPoint (λ r. value r.second < t) (λ r. t ≤ value r.second) rests place
    below_all less =
        let long = length-map rests (as_pair value) in (
          λ k d from near.
              let some : 0 < place = omega (arith, near) in
              let inside : place - 1 < length rests = omega (arith, some, cut.within, long) in
              omega (arith, rising k (place - 1) d (omega (arith, near)) inside, (pair_at (place - 1) d inside).0, less some),
          λ k d far within. omega (arith, (pair_at k d within).0, cut.after k far (omega (arith, within, long))),
        )

  -- behind those of a lesser second component, and with those that come next and aren't less in the third
  pub place_from : (r : Rest P) (start end : ℕ) → start ≤ end → end ≤ length rests
      → IsPartitionPoint (λ q. value q.second < value r.second) (λ q. value r.second ≤ value q.second) rests start
      → AllWithin (λ q. value r.third ≤ value q.third) rests start end → (end < length rests → second (get_or pairs end []) < value r.third)
      → IsPlaceFor pairs (as_pair value r) start end
  place_from r start end order within cut thirds ends = record {
    order = order;
    within = omega (arith, within, length-map rests (as_pair value));
    before = λ k near.
        let inside : k < length rests = omega (arith, near, order, within) in
        let d = some_at k inside in
        omega (arith, (pair_at k d inside).0, cut.0 k d (omega arith) near);
    between = λ k past near.
        let inside : k < length rests = omega (arith, near, within) in
        let d = some_at k inside in
        let two = s.components k [] (omega (arith, inside, length-map rests (as_pair value))) in
        let at = pair_at k d inside in
        (pair_at_most (as_pair value r) (get_or pairs k []) refl two).1 (omega (arith, at.0, cut.1 k d past inside), omega (arith, at.1, thirds k d past near));
    behind = λ k far inside.
        let more : end < length rests = omega (arith, far, inside, length-map rests (as_pair value)) in
        let less = ends more in
        elim (cases_lt end k) [
          | inl before ↦ omega (arith, less, (s.descends end k [] before inside).1)
          | inr same ↦ let is : k ≡ end = omega (arith, far, same) in rw is less
        ];
  }
