-- What is found where the target is the start: the cost of the walk without arcs.
use Rattle.std.specs.Prelude.{ℕ, ◌≤◌, [], ◌∷◌, replicate}
use Rattle.cost_vector.specs.Costs.{min_criteria, max_criteria}
use Rattle.road_network.specs.Limits.{max_nodes}
use Rattle.road_network.specs.Network.{IsNode}
use Rattle.walk_readback.specs.Found.{FoundCosts}

-- at the node v of a network of so many nodes and criteria
abbrev pub standing : ℕ → ℕ → ℕ → FoundCosts
standing nodes criteria v = record {
  nodes = nodes;
  criteria = criteria;
  start = v;
  target = v;
  settled = (v, replicate criteria 0) ∷ [];
  costs = replicate criteria 0 ∷ [];
}

-- these are numbers of a network and of a node of it
pub record IsPlace (nodes criteria v : ℕ) : Type 0 where
  pub two : min_criteria ≤ criteria
  pub four : criteria ≤ max_criteria
  pub small : nodes ≤ max_nodes
  pub node : IsNode nodes v
