-- What may be taken of what waits, and what is taken next.
use Rattle.std.specs.Prelude.{◌≡◌, ℕ, List, ◌↔◌, length, AllPairs, Contains}
use Rattle.cost_vector.specs.Costs.{Dominates}
use Rattle.list_laws.specs.Sets.{ListsOnce}
use Rattle.bulk_rounds.specs.Cores.{Core, IsSettledIn, IsSpent, Spot, SpotLess, Waits}

-- the spot waits, and is neither covered nor barred
pub record IsOpenIn (core : Core) (x : Spot) : Type 0 where
  pub waits : Waits core x
  pub unspent : ¬ IsSpent core x

-- it is open, and no open spot's cost dominates its cost
pub record IsNextIn (core : Core) (x : Spot) : Type 0 where
  pub is_open : IsOpenIn core x
  pub none_better : (z : Spot) → IsOpenIn core z → ¬ Dominates z.cost x.cost

-- the list has just the next spots, ascending
pub record ListsNext (core : Core) (spots : List Spot) : Type 0 where
  pub ascending : AllPairs SpotLess spots
  pub exact : (x : Spot) → Contains spots x ↔ IsNextIn core x

-- so many spots are settled: a list has all of them, each once
pub record CountsSettled (core : Core) (count : ℕ) : Type 0 where
  pub spots : List Spot
  pub once : ListsOnce (IsSettledIn core) spots
  pub counted : length spots ≡ count
