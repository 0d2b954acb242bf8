-- The settled costs of a node, in order.
use Rattle.std.specs.Prelude.{ℕ, ◌↔◌, List, AllPairs, Contains}
use Rattle.cost_vector.specs.Costs.{LexLess}
use Rattle.walk_readback.specs.Found.{FoundCosts, HasSettled}

-- the list has just the settled costs of the node, in strictly ascending lexicographic order
pub record ListsSettled (f : FoundCosts) (v : ℕ) (list : List (List ℕ)) : Type 0 where
  pub ascending : AllPairs LexLess list
  pub exact : (c : List ℕ) → Contains list c ↔ HasSettled f v c
