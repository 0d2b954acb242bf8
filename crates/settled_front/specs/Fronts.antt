-- The settled costs of a node, as a list of which membership counts.
use Rattle.std.specs.Prelude.{ℕ, List, AllPairs, Contains}
use Rattle.cost_vector.specs.Costs.{AtMost, LexLess}
use Rattle.list_laws.specs.Sets.{SameMembers}

-- some cost of the list is at most c
pub record IsCovered (costs : List (List ℕ)) (c : List ℕ) : Type 0 where
  pub by : List ℕ
  pub contains : Contains costs by
  pub at_most : AtMost by c

-- the list has these costs, in strictly ascending lexicographic order
pub record ListsCosts (costs list : List (List ℕ)) : Type 0 where
  pub ascending : AllPairs LexLess list
  pub exact : SameMembers list costs
