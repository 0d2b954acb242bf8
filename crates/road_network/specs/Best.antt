-- Which costs and which walks a query asks for (Martins 1984).
use Rattle.std.specs.Prelude.{◌≢◌, ℕ, List, reverse}
use Rattle.cost_vector.specs.Costs.{AtMost, Dominates}
use Rattle.road_network.specs.Network.{Network}
use Rattle.road_network.specs.Walks.{IsWalk}
use Rattle.list_laws.specs.FirstDifference.{IsLessAtFirst}

-- c is best at v, from s: some walk has that cost, and none has a cost that dominates it
pub record IsBest (net : Network) (s v : ℕ) (c : List ℕ) : Type 0 where
  pub reached : (p : List ℕ) × IsWalk net s p v c
  pub nondominated : (p b : List ℕ) → IsWalk net s p v b → ¬ Dominates b c

-- p is the backward-least walk of its cost: of two such walks, both read from the last arc backwards, p has the lesser
-- arc number at the first place of difference
pub record IsBackwardLeast (net : Network) (s v : ℕ) (c p : List ℕ) : Type 0 where
  pub walk : IsWalk net s p v c
  pub least : (q : List ℕ) → IsWalk net s q v c → q ≢ p → IsLessAtFirst (reverse p) (reverse q)

-- some best cost of v is at most c
pub record HasBestBelow (net : Network) (s v : ℕ) (c : List ℕ) : Type 0 where
  pub cost : List ℕ
  pub best : IsBest net s v cost
  pub at_most : AtMost cost c

-- the arcs are a walk from s to a node, and its cost is best there
pub record EndsAtBest (net : Network) (s : ℕ) (p : List ℕ) : Type 0 where
  pub at : ℕ
  pub cost : List ℕ
  pub walk : IsWalk net s p at cost
  pub best : IsBest net s at cost
