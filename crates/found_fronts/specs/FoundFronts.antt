-- What a search has found, told by the fronts of all nodes.
use Rattle.std.specs.Prelude.{◌≡◌, ℕ, ◌↔◌, List, Contains}
use Rattle.settled_fronts.specs.NodeFronts.{Fronts, costs_at, settled_pairs}
use Rattle.walk_readback.specs.Found.{FoundCosts, HasSettled}

-- what was found in d criteria, where the target has these costs
abbrev pub found_in : ℕ → ℕ → ℕ → List (List ℕ) → Fronts → FoundCosts
found_in d start target costs fronts = record {
  nodes = fronts.nodes;
  criteria = d;
  start = start;
  target = target;
  settled = settled_pairs fronts;
  costs = costs;
}

-- from this node to that in d criteria just what is settled in the fronts was found
pub record IsOfFronts (d start target : ℕ) (fronts : Fronts) (f : FoundCosts) : Type 0 where
  pub nodes : f.nodes ≡ fronts.nodes
  pub criteria : f.criteria ≡ d
  pub start_is : f.start ≡ start
  pub target_is : f.target ≡ target
  pub settled : (v : ℕ) (c : List ℕ) → HasSettled f v c ↔ Contains (costs_at fronts v) c
