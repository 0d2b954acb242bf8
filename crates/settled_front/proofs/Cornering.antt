-- Blocks with their corners, as a block comes to them.
use Rattle.std.proofs.Common.{◌≡◌, ◌≢◌, ℕ, ◌+◌, ◌*◌, ◌/◌, ◌%◌, ◌<◌, ◌≤◌, List, [], ◌∷◌, ◌++◌, length, get_or, map, set, take, drop, inl, inr, refl, sym, ap, ◌∙◌}
use Rattle.std.proofs.Common.{append_assoc, length-append, length-take, length-take-le, take-append-drop, arith, All, IsPermutation, get_or-set_same}
use Rattle.std.proofs.Common.{subst, get_or-set_other, get_or-take, length-set, take-take}
use Rattle.std.proofs.lemmas.Bool.{cases_lt, cases_eq}
use Rattle.std.proofs.lemmas.List.{drop-map, drop-take, get_or_append_left, get_or_push, length-map, length_push, map-append}
use Rattle.std.proofs.lemmas.List.Concat.{flat_map-append}
use Rattle.std.proofs.lemmas.List.Sorted.{IsPermutation-append_right, IsPermutation-map}
use Rattle.std.proofs.lemmas.List.Elements.{All-drop, All-head, All-set, All-tail, All-take}
use Rattle.cost_vector.specs.Costs.{AtMost}
use Rattle.settled_front.proofs.Views.{read_at}
use Rattle.settled_front.specs.Corners.{AreCornered, HaveCorners, corner_at, in_blocks}

module _ {blocks groups : List (List (List ℕ))} (have : HaveCorners blocks groups) where
  -- the corner of one more block comes into the lane that follows
  pub corner_set : (block : List (List ℕ)) (corner : List ℕ) → All (AtMost corner) block → (n : ℕ) → n ≡ length blocks → n / 16 < length groups
      → HaveCorners (blocks ++ block ∷ []) (set groups (n / 16) (set (get_or groups (n / 16) []) (n % 16) corner))
  corner_set block corner below n long within =
      let b = n / 16 in
      let lane = n % 16 in
      let group = get_or groups b [] in
      let written = set group lane corner in
      let stay : (k : ℕ) → k < length blocks → corner_at (set groups b written) k ≡ corner_at groups k = λ k before. elim (cases_eq (k / 16) b) [
        | inl here ↦
            let other : k % 16 ≢ lane = λ e. absurd (omega (arith, here, long, before, e)) in
            rw (here, get_or-set_same groups b written [] within, get_or-set_other group lane (k % 16) corner [] other)
        | inr other ↦ rw (get_or-set_other groups b (k / 16) written [] other)
      ] in
      record {
        enough = omega (arith, within, long, length_push blocks block, length-set groups b written);
        few = omega (arith, have.few, length_push blocks block, length-set groups b written);
        full = All-set (λ g. length g ≡ 16) groups b written (length-set group lane corner ∙ have.full b [] within) have.full;
        at_most = λ k inside. elim (cases_lt k (length blocks)) [
          | inl old ↦ rw (get_or_append_left blocks (block ∷ []) [] k old, stay k old) (have.at_most k old)
          | inr behind ↦
              let here : k ≡ n = omega (arith, inside, long, length_push blocks block) in
              rw (
                here,
                get_or_push blocks block [] n (sym long),
                get_or-set_same groups b written [] within,
                get_or-set_same group lane corner [] (omega (arith, have.full b [] within)),
              ) below
        ];
      }

-- ---- blocks that are laid anew

module _ {B : Type 0} (f : B → List (List ℕ)) (blocks : List B) (full : All (λ block. length block ≡ 16) (map f blocks)) where
  -- a block that is read is full
  pub full_read : (k : ℕ) (b : B) → k < length blocks → b ≡ get_or blocks k b → length (f b) ≡ 16
  full_read k b within is = subst (λ c. length c ≡ 16) (read_at f blocks k b within is) (full k [] (omega (arith, length-map blocks f)))

  -- and those from one on are
  pub full_behind : (start : ℕ) (last : List B) → last ≡ drop start blocks → All (λ block. length block ≡ 16) (map f last)
  full_behind start last is = rw (is, ← drop-map f start blocks) (All-drop (λ block. length block ≡ 16) start (map f blocks) full)

-- full blocks have so many costs
pub full_length : (blocks : List (List (List ℕ))) → All (λ block. length block ≡ 16) blocks → length (in_blocks blocks) ≡ length blocks * 16
full_length [] full = refl
full_length (b ∷ bs) full =
    let rest = full_length bs (All-tail (λ block. length block ≡ 16) b bs full) in
    omega (arith, rest, length-append b (in_blocks bs), All-head (λ block. length block ≡ 16) b bs full)

-- the next costs are added
pub costs_more : {C : Type 0} (f : C → List ℕ) (costs : List C) (n m : ℕ) (before : List (List ℕ))
    → (before ++ map f (take n costs)) ++ map f (take m (drop n costs)) ≡ before ++ map f (take (n + m) costs)
costs_more f costs n m before =
    let split = rw (take-take n (n + m) costs (omega arith), drop-take n m costs) at (take-append-drop n (take (n + m) costs)) in
    append_assoc before (map f (take n costs)) (map f (take m (drop n costs)))
    ∙ ap (λ l. before ++ l) (sym (map-append f (take n costs) (take m (drop n costs))) ∙ ap (map f) split)

-- the first blocks have their corners
pub cornered_front : (d start n : ℕ) {blocks groups : List (List (List ℕ))} → AreCornered d blocks groups → start ≤ length blocks → n ≡ (start + 15) / 16
    → AreCornered d (take start blocks) (take n groups)
cornered_front d start n {blocks} {groups} have within is =
    let long : length (take start blocks) ≡ start = length-take-le start blocks within in
    record {
      two = have.two;
      full = All-take (λ block. length block ≡ 16) start blocks have.full;
      cornered = record {
        enough = omega (arith, within, have.cornered.enough, long, is, length-take n groups);
        few = omega (arith, long, is, length-take n groups);
        full = All-take (λ group. length group ≡ 16) n groups have.cornered.full;
        at_most = λ k inside.
            let near : k < start = omega (arith, inside, long) in
            rw (get_or-take start blocks k [] near, get_or-take n groups (k / 16) [] (omega (arith, near, is)))
            (have.cornered.at_most k (omega (arith, near, within)));
      };
    }

-- the costs of the last blocks in another order
pub laid_anew : {C : Type 0} (f : C → List ℕ) (blocks : List (List (List ℕ))) (start : ℕ) (costs sorted : List C)
    → map f costs ≡ in_blocks (drop start blocks) → IsPermutation costs sorted
    → IsPermutation (in_blocks blocks) (in_blocks (take start blocks) ++ map f sorted)
laid_anew f blocks start costs sorted last moved =
    let front = in_blocks (take start blocks) in
    let whole : in_blocks blocks ≡ front ++ map f costs =
    rw last (ap in_blocks (sym (take-append-drop start blocks)) ∙ flat_map-append (λ block. block) (take start blocks) (drop start blocks)) in
    rw whole (IsPermutation-append_right front (map f costs) (map f sorted) (IsPermutation-map f costs sorted moved))
