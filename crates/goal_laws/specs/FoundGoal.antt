-- What a goal-directed search has found.
use Rattle.std.specs.Prelude.{ℕ, ◌↔◌, List, Option}
use Rattle.road_network.specs.Network.{Network}
use Rattle.walk_readback.specs.Found.{FoundCosts, HasSettled}
use Rattle.goal_laws.specs.Goal.{IsGoalRelevant}

-- the settled pairs are exactly the goal-relevant ones
pub record HasAllGoalRelevant (net : Network) (limit : List (Option ℕ)) (f : FoundCosts) : Type 0 where
  pub relevant : (v : ℕ) (c : List ℕ) → HasSettled f v c ↔ IsGoalRelevant net f.start f.target limit v c
