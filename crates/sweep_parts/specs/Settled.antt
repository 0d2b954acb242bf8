-- The settled costs of nodes, in lexicographic order.
use Rattle.std.specs.Prelude.{◌≡◌, ◌≢◌, ℕ, ◌+◌, List, [], ◌∷◌, ◌++◌, length, map, slice_index_or, sum, All, AllPairs, Contains}
use Rattle.cost_vector.specs.Costs.{AtMost, Dominates, LexLess}

-- the costs of the node v, by the lists of all numbers
abbrev pub costs_of : List (List (List ℕ)) → ℕ → List (List ℕ)
costs_of lists v = slice_index_or lists v []

-- how many there are
abbrev pub count_settled : List (List (List ℕ)) → ℕ
count_settled lists = sum (map length lists)

-- none of the costs comes behind c
abbrev pub IsBehind : List (List ℕ) → List ℕ → Type 0
IsBehind costs c = All (λ x. ¬ LexLess c x) costs

-- one of the costs dominates c
pub record IsDominated (costs : List (List ℕ)) (c : List ℕ) : Type 0 where
  pub by : List ℕ
  pub contains : Contains costs by
  pub dominates : Dominates by c

-- the costs ascend lexicographically, and none is at most a later one
pub record IsSettledList (costs : List (List ℕ)) : Type 0 where
  pub ascending : AllPairs LexLess costs
  pub apart : AllPairs (λ a b. ¬ AtMost a b) costs

-- c is the last cost of the node v now, and the others are as they were
pub record Pushes (before : List (List (List ℕ))) (v : ℕ) (c : List ℕ) (after : List (List (List ℕ))) : Type 0 where
  pub long : length after ≡ length before
  pub pushed : costs_of after v ≡ costs_of before v ++ c ∷ []
  pub others : (w : ℕ) → w ≢ v → costs_of after w ≡ costs_of before w
  pub more : count_settled after ≡ count_settled before + 1
