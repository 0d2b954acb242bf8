-- Which pairs of a node and a cost a search asks for that is directed to its target by lower bounds.
-- Source: L. Mandow and J. L. Pérez de la Cruz, Multiobjective A* search with consistent heuristics, Journal of the ACM 57 (2010).
use Rattle.std.specs.Prelude.{◌≡◌, ◌≢◌, ℕ, ◌+◌, ◌<◌, ◌↔◌, List, Option, length, slice_index, All, AllPairs, Contains}
use Rattle.cost_vector.specs.Costs.{AtMost, Dominates, Within, plus}
use Rattle.road_network.specs.Network.{Network}
use Rattle.road_network.specs.Walks.{IsWalk}
use Rattle.road_network.specs.Best.{IsBest}
use Rattle.road_network.specs.Queries.{limit_of}
use Rattle.road_network.specs.declared.query.Query.{Query}

-- some walk from v to t has the number x as component j of its cost, counted from 0
pub record HasWalkOf (net : Network) (v t j x : ℕ) : Type 0 where
  pub arcs : List ℕ
  pub cost : List ℕ
  pub walk : IsWalk net v arcs t cost
  pub component : slice_index cost j ≡ x

-- Each component of h is the least that walks from v to t have. So there is one only where some walk leads to t. Different
-- components may be those of different walks.
pub record IsBound (net : Network) (v t : ℕ) (h : List ℕ) : Type 0 where
  pub whole : length h ≡ net.criteria
  pub below : (p r : List ℕ) → IsWalk net v p t r → AtMost h r
  pub least : (j : ℕ) → j < net.criteria → HasWalkOf net v t j (slice_index h j)

-- The pair of a node and a cost is goal-relevant: the cost is best at the node, some walk leads on to t, and the cost with the
-- bound of the node added is within the limit, and no best cost of t dominates it.
pub record IsGoalRelevant (net : Network) (s t : ℕ) (limit : List (Option ℕ)) (v : ℕ) (c : List ℕ) : Type 0 where
  pub best : IsBest net s v c
  pub bound : List ℕ
  pub is_bound : IsBound net v t bound
  pub within : Within limit (plus c bound)
  pub undominated : (b : List ℕ) → IsBest net s t b → ¬ Dominates b (plus c bound)

-- the goal-relevant pairs, each once
pub record AreGoalRelevantPairs (net : Network) (s t : ℕ) (limit : List (Option ℕ)) (pairs : List (ℕ × List ℕ)) : Type 0 where
  pub distinct : AllPairs ◌≢◌ pairs
  pub exact : (p : ℕ × List ℕ) → Contains pairs p ↔ IsGoalRelevant net s t limit p.0 p.1

-- the query is refused by its budget: it has at least one goal-relevant pair more than the budget
pub record GoalPasses (net : Network) (s t : ℕ) (limit : List (Option ℕ)) (budget : ℕ) : Type 0 where
  pub pairs : List (ℕ × List ℕ)
  pub more : length pairs ≡ budget + 1
  pub distinct : AllPairs ◌≢◌ pairs
  pub relevant : All (λ p. IsGoalRelevant net s t limit p.0 p.1) pairs

-- the query has more goal-relevant pairs within its limit than its budget allows
abbrev pub IsTooLargeToward : Network → Query → Type 0
IsTooLargeToward net query = GoalPasses net query.from query.to (limit_of net.criteria query) query.budget
