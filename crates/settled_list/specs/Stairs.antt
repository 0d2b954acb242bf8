-- Costs of three components without their first one, as a staircase.
use Rattle.std.specs.Prelude.{ℕ, ◌<◌, ◌≤◌, List, [], ◌∷◌, length, slice_index_or, All}
use Rattle.list_laws.specs.Sets.{SameMembers}
use Rattle.list_laws.specs.Without.{IsWithout}
use Rattle.cost_vector.specs.Costs.{AtMost}
use Rattle.settled_front.specs.Staircase.{first, second}
use Rattle.settled_list.specs.declared.staircase.Rest.{Rest}

-- the two components that are stored
abbrev pub as_pair : {P : Type 0} → (P → ℕ) → Rest P → List ℕ
as_pair value r = value r.second ∷ value r.third ∷ []

-- their first stored components are below the bound
abbrev pub SecondsFit : {P : Type 0} → (P → ℕ) → ℕ → List (Rest P) → Type 0
SecondsFit value bound rests = All (λ r. value r.second < bound) rests

-- where r belongs in a staircase: those before it are less in the first component, those behind it
-- in the second, and it is at most those between
pub record IsPlaceFor (pairs : List (List ℕ)) (r : List ℕ) (start end : ℕ) : Type 0 where
  pub order : start ≤ end
  pub within : end ≤ length pairs
  pub before : (k : ℕ) → k < start → first (slice_index_or pairs k []) < first r
  pub between : (k : ℕ) → start ≤ k → k < end → AtMost r (slice_index_or pairs k [])
  pub behind : (k : ℕ) → end ≤ k → k < length pairs → second (slice_index_or pairs k []) < second r

-- a vector comes to the others, and those go that it is at most
pub record PutsIn (before : List (List ℕ)) (r : List ℕ) (after : List (List ℕ)) : Type 0 where
  pub left : List (List ℕ)
  pub without : IsWithout (AtMost r) before left
  pub exact : SameMembers after (r ∷ left)
