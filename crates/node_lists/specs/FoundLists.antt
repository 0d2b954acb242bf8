-- What a search has found, with the costs of each node in order.
use Rattle.std.specs.Prelude.{◌≡◌, ◌≢◌, ℕ, ◌-◌, List, length, map, All}
use Rattle.cost_vector.specs.Costs.{plus}
use Rattle.settled_fronts.specs.NodeFronts.{pairs_from}
use Rattle.sweep_parts.specs.Settled.{costs_of}
use Rattle.walk_readback.specs.Found.{FoundCosts}

-- The number of criteria, the nodes from which and to which walks lead, and the settled costs by the node's number, from 0,
-- which is no node.
pub record FoundLists : Type 0 where
  pub criteria : ℕ
  pub start : ℕ
  pub target : ℕ
  pub lists : List (List (List ℕ))

-- what was found
abbrev pub found_in : FoundLists → FoundCosts
found_in f = record {
  nodes = length f.lists - 1;
  criteria = f.criteria;
  start = f.start;
  target = f.target;
  settled = pairs_from 0 f.lists;
  costs = costs_of f.lists f.target;
}

-- what is left of a cost when the vector is taken off it
pub record IsLowered (by cost left : List ℕ) : Type 0 where
  pub long : length left ≡ length by
  pub sum : plus left by ≡ cost

-- what is left of each of these costs, in their order
pub record AreLowered (by : List ℕ) (costs left : List (List ℕ)) : Type 0 where
  pub long : All (λ c. length c ≡ length by) left
  pub sums : map (λ c. plus c by) left ≡ costs

-- the vector is taken off each cost of the node v, and all others are as they were
pub record Lowers (v : ℕ) (by : List ℕ) (before after : FoundLists) : Type 0 where
  pub criteria : after.criteria ≡ before.criteria
  pub start : after.start ≡ before.start
  pub target : after.target ≡ before.target
  pub long : length after.lists ≡ length before.lists
  pub lowered : AreLowered by (costs_of before.lists v) (costs_of after.lists v)
  pub others : (w : ℕ) → w ≢ v → costs_of after.lists w ≡ costs_of before.lists w
