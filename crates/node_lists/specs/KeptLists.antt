-- How the costs of all nodes are kept in order.
use Rattle.std.specs.Prelude.{◌≡◌, ℕ, ◌-◌, ◌≤◌, List, length, AllPairs}
use Rattle.cost_vector.specs.Costs.{LexLess}
use Rattle.road_network.specs.Limits.{max_budget}
use Rattle.road_network.specs.Network.{IsNode}
use Rattle.settled_fronts.specs.NodeFronts.{IsKept, costs_by}
use Rattle.sweep_parts.specs.Settled.{IsSettledList, costs_of, count_settled}

-- Each number's list is kept at its place, and is a settled one; so many costs are settled, and no more than a budget allows.
pub record AreKept (d bound : ℕ) (places : List ℕ) (begun : List (List (List ℕ))) (count : ℕ) : Type 0 where
  pub kept : IsKept d bound places begun
  pub settled : (v : ℕ) → IsSettledList (costs_of (costs_by places begun) v)
  pub counted : count ≡ count_settled (costs_by places begun)
  pub few : count ≤ max_budget

-- Each number's costs are kept at its place, in ascending order, and there are so many, no more than a budget allows; the search
-- was between these nodes.
pub record AreFound (d bound start target : ℕ) (places : List ℕ) (begun : List (List (List ℕ))) (count : ℕ) : Type 0 where
  pub kept : IsKept d bound places begun
  pub ascending : (v : ℕ) → AllPairs LexLess (costs_of (costs_by places begun) v)
  pub counted : count ≡ count_settled (costs_by places begun)
  pub few : count ≤ max_budget
  pub start_in : IsNode (length places - 1) start
  pub target_in : IsNode (length places - 1) target
