-- Which costs are covered by lists of costs, and by blocks of them.
use Rattle.std.proofs.Common.{◌≡◌, ◌↔◌, ◌⊎◌, ℕ, zero, suc, ◌+◌, ◌*◌, ◌/◌, ◌%◌, ◌<◌, ◌≤◌, List, [], ◌∷◌, ◌++◌, length, drop, get_or, inl, inr, sym, subst, ◌∙◌}
use Rattle.std.proofs.Common.{arith, get_or-drop}
use Rattle.std.proofs.lemmas.List.{get_or_default}
use Rattle.std.proofs.lemmas.List.Elements.{Contains-get_or, Contains-append_left, Contains-append_right, Contains-append_cases}
use Rattle.cost_vector.specs.Costs.{AtMost}
use Rattle.cost_vector.proofs.Vectors.{AtMost-trans}
use Rattle.list_laws.proofs.Members.{in_none, each_in}
use Rattle.settled_front.specs.Fronts.{IsCovered}
use Rattle.settled_front.specs.Blocks.{AreAtMost, HasLane}
use Rattle.settled_front.specs.Corners.{CoversAmong, HaveCorners, corner_at, in_blocks}

-- nothing covers in an empty list
covered_none : (c : List ℕ) → ¬ IsCovered [] c
covered_none c h = in_none h.by h.contains

-- a list covers where the cost at some place does
module _ (costs : List (List ℕ)) (c : List ℕ) where
  pub covers_at : (k : ℕ) → k < length costs → AtMost (get_or costs k []) c → IsCovered costs c
  covers_at k within below = record { by = get_or costs k []; contains = Contains-get_or costs k [] within; at_most = below }

  pub covered_at : (h : IsCovered costs c) → AtMost (get_or costs h.contains.0 []) c
  covered_at h = subst (λ x. AtMost x c) (sym (get_or_default costs h.contains.0 [] h.by h.contains.1 ∙ h.contains.2)) h.at_most

-- of two lists one covers
pub covered_append : (xs ys : List (List ℕ)) (c : List ℕ) → IsCovered (xs ++ ys) c ↔ (IsCovered xs c ⊎ IsCovered ys c)
covered_append xs ys c = (
  λ h. elim (Contains-append_cases xs ys h.by h.contains) [
    | inl near ↦ inl (record { by = h.by; contains = near; at_most = h.at_most })
    | inr far ↦ inr (record { by = h.by; contains = far; at_most = h.at_most })
  ],
  λ h. elim h [
    | inl near ↦ record { by = near.by; contains = Contains-append_left xs ys near.by near.contains; at_most = near.at_most }
    | inr far ↦ record { by = far.by; contains = Contains-append_right xs ys far.by far.contains; at_most = far.at_most }
  ],
)

-- what a block covers, all of them do
pub covered_in : (blocks : List (List (List ℕ))) (c : List ℕ) (k : ℕ) → IsCovered (get_or blocks k []) c → IsCovered (in_blocks blocks) c
covered_in [] c k covered = absurd (covered_none c covered)
covered_in (b ∷ bs) c zero covered = (covered_append b (in_blocks bs) c).1 (inl covered)
covered_in (b ∷ bs) c (suc k) covered = (covered_append b (in_blocks bs) c).1 (inr (covered_in bs c k covered))

-- and what none covers, they don't
pub none_in : (blocks : List (List (List ℕ))) (c : List ℕ) → ((k : ℕ) → k < length blocks → ¬ IsCovered (get_or blocks k []) c)
    → ¬ IsCovered (in_blocks blocks) c
none_in [] c none h = covered_none c h
none_in (b ∷ bs) c none h = elim ((covered_append b (in_blocks bs) c).0 h) [
  | inl here ↦ none 0 (omega arith) here
  | inr behind ↦ none_in bs c (λ k inside. none (suc k) (omega arith)) behind
]

module _ (blocks : List (List (List ℕ))) (c : List ℕ) where
  -- a block that covers stands in a lane of its group whose corner is at most c
  pub among_group : {groups : List (List (List ℕ))} → HaveCorners blocks groups → (n lanes k : ℕ) → AreAtMost (get_or groups n []) c lanes
      → n * 16 ≤ k → k < n * 16 + 16 → k < length blocks → IsCovered (get_or blocks k []) c → CoversAmong (drop (n * 16) blocks) lanes c
  among_group {groups} have n lanes k are from near inside h =
      let lane = k % 16 in
      let of_this : k / 16 ≡ n = omega arith in
      let here : n * 16 + lane ≡ k = omega arith in
      let within : lane < 16 = omega arith in
      let corner = corner_at groups k in
      let below = AtMost-trans corner h.by c (each_in (AtMost corner) (get_or blocks k []) (have.at_most k inside) h.by h.contains) h.at_most in
      record {
        lane = lane;
        within = within;
        has = (are lane within).1 (subst (λ j. AtMost (get_or (get_or groups j []) lane []) c) of_this below);
        covered = rw (get_or-drop (n * 16) blocks lane [], here) h;
      }

  -- of the lanes those that are left aren't looked into yet, and in the others no block covers
  pub record LanesLeft (lanes left : ℕ) : Type 0 where
    pub some : (lane : ℕ) → lane < 16 → HasLane left lane → HasLane lanes lane
    pub others : (lane : ℕ) → lane < 16 → HasLane lanes lane → HasLane left lane ⊎ ¬ IsCovered (get_or blocks lane []) c
