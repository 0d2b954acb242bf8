-- The bounds of nodes, as they are found by a search for each criterion.
use Rattle.std.specs.Prelude.{◌≡◌, ℕ, ◌<◌, List, Option, Some, None, length, slice_index_or}
use Rattle.road_network.specs.Network.{Network}
use Rattle.goal_laws.specs.Goal.{IsBound}
use Rattle.goal_bounds.specs.Reverse.{ReverseSearch, IsReverse, NoneLeads}

-- the bound of the node v for walks to t, or None where none leads there
abbrev pub IsBoundIfAny : Network → ℕ → ℕ → Option (List ℕ) → Type 0
IsBoundIfAny net v t None = NoneLeads net v t
IsBoundIfAny net v t (Some h) = IsBound net v t h

-- where the walks lead to, and the search for each component
pub record BoundSearch : Type 0 where
  pub target : ℕ
  pub searches : List ReverseSearch

-- these search the network for the bounds of its nodes, of walks to t
pub record IsBoundSearch (net : Network) (t : ℕ) (b : BoundSearch) : Type 0 where
  pub target_is : b.target ≡ t
  pub count : length b.searches ≡ net.criteria
  pub each : (j : ℕ) (d : ReverseSearch) → j < net.criteria → IsReverse net t j (slice_index_or b.searches j d)
