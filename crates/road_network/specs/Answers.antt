-- The answer to a query from s to t within a limit, and when a query passes its budget.
use Rattle.std.specs.Prelude.{◌≡◌, ◌≢◌, ℕ, ◌+◌, ◌↔◌, List, Option, length, map, All, AllPairs, Contains}
use Rattle.cost_vector.specs.Costs.{Dominates, LexLess, Within}
use Rattle.road_network.specs.Network.{Network}
use Rattle.road_network.specs.Best.{IsBest, IsBackwardLeast}

-- the best costs of t within the limit, each once, in strictly ascending lexicographic order
pub record AreBestCosts (net : Network) (s t : ℕ) (limit : List (Option ℕ)) (costs : List (List ℕ)) : Type 0 where
  pub ascending : AllPairs LexLess costs
  pub exact : (c : List ℕ) → Contains costs c ↔ (IsBest net s t c × Within limit c)

-- a cost with a walk that has it
pub record Route : Type 0 where
  pub cost : List ℕ
  pub arcs : List ℕ

-- those costs, each with its backward-least walk
pub record IsAnswer (net : Network) (s t : ℕ) (limit : List (Option ℕ)) (routes : List Route) : Type 0 where
  pub costs : AreBestCosts net s t limit (map (λ r. r.cost) routes)
  pub walks : All (λ r. IsBackwardLeast net s t r.cost r.arcs) routes

-- The pair of a node and a cost is relevant: the cost is best at the node and within the limit, and no best cost of t
-- dominates it.
pub record IsRelevant (net : Network) (s t : ℕ) (limit : List (Option ℕ)) (v : ℕ) (c : List ℕ) : Type 0 where
  pub best : IsBest net s v c
  pub within : Within limit c
  pub undominated : (b : List ℕ) → IsBest net s t b → ¬ Dominates b c

-- the relevant pairs, each once
pub record AreRelevantPairs (net : Network) (s t : ℕ) (limit : List (Option ℕ)) (pairs : List (ℕ × List ℕ)) : Type 0 where
  pub distinct : AllPairs ◌≢◌ pairs
  pub exact : (p : ℕ × List ℕ) → Contains pairs p ↔ IsRelevant net s t limit p.0 p.1

-- the query is refused by its budget: it has at least one relevant pair more than the budget
pub record Passes (net : Network) (s t : ℕ) (limit : List (Option ℕ)) (budget : ℕ) : Type 0 where
  pub pairs : List (ℕ × List ℕ)
  pub more : length pairs ≡ budget + 1
  pub distinct : AllPairs ◌≢◌ pairs
  pub relevant : All (λ p. IsRelevant net s t limit p.0 p.1) pairs
