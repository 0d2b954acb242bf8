-- How the front of a node under 2 criteria is laid out.
use Rattle.std.specs.Prelude.{◌≡◌, ℕ, ◌+◌, ◌<◌, ◌≤◌, List, [], length, slice_index, slice_index_or, All, AllPairs}

-- the two components of a cost
abbrev pub first : List ℕ → ℕ
first c = slice_index c 0

abbrev pub second : List ℕ → ℕ
second c = slice_index c 1

-- costs of two components; each later one is greater in the first component and less in the second
pub record IsStaircase (costs : List (List ℕ)) : Type 0 where
  pub components : All (λ c. length c ≡ 2) costs
  pub descends : AllPairs (λ a b. (first a < first b) × (second b < second a)) costs

-- the costs from the end on have a first component above t, and those before it one of at most t, but for the last ones before
-- it, the rest, of which nothing is said
pub record IsCut (costs : List (List ℕ)) (t end rest : ℕ) : Type 0 where
  pub left : rest ≤ end
  pub within : end ≤ length costs
  pub before : (k : ℕ) → k + rest < end → first (slice_index_or costs k []) ≤ t
  pub after : (k : ℕ) → end ≤ k → k < length costs → t < first (slice_index_or costs k [])

-- as many costs have a first component of at most t, and the others don't
abbrev pub IsUpTo : List (List ℕ) → ℕ → ℕ → Type 0
IsUpTo costs t place = IsCut costs t place 0
