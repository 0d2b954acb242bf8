-- What a search for a query has found, by a potential.
use Rattle.std.specs.Prelude.{◌≡◌, ℕ, ◌↔◌, List, length, Contains}
use Rattle.cost_vector.specs.Costs.{plus}
use Rattle.road_network.specs.Network.{Network}
use Rattle.road_network.specs.Queries.{limit_of}
use Rattle.road_network.specs.declared.query.Query.{Query}
use Rattle.walk_readback.specs.Found.{IsOf}
use Rattle.sweep_parts.specs.Settled.{costs_of}
use Rattle.node_lists.specs.FoundLists.{FoundLists, found_in}
use Rattle.sweep_core.specs.Potentials.{IsRelevantBy, PassesBy, Potential}
use Rattle.sweep_core.specs.Sweeps.{IsLifted, SettlesAll}

-- the query has more pairs relevant by the potential than its budget allows
abbrev pub IsTooLargeBy : Network → Query → Potential → Type 0
IsTooLargeBy net query P = PassesBy net query.from query.to (limit_of net.criteria query) P query.budget

-- found for the query were exactly the pairs relevant by the potential, each with the height of its node added
pub record HasAllBy (net : Network) (query : Query) (P : Potential) (f : FoundLists) : Type 0 where
  pub of_query : IsOf net query (found_in f)
  pub settles : SettlesAll net query.from query.to (limit_of net.criteria query) P f.lists

-- found for the query were exactly the pairs relevant by the potential
pub record HasAllBare (net : Network) (query : Query) (P : Potential) (f : FoundLists) : Type 0 where
  pub of_query : IsOf net query (found_in f)
  pub exact : (v : ℕ) (c : List ℕ) → Contains (costs_of f.lists v) c ↔ IsRelevantBy net query.from query.to (limit_of net.criteria query) P v c

-- the cost c of the node v is there, with the height of the node added
pub record HasLifted (net : Network) (P : Potential) (lists : List (List (List ℕ))) (v : ℕ) (c : List ℕ) : Type 0 where
  pub whole : length c ≡ net.criteria
  pub height : List ℕ
  pub has : P v height
  pub there : Contains (costs_of lists v) (plus c height)

-- each cost of the node v has the height of the node in it
abbrev pub AreLiftedAt : Network → Potential → List (List (List ℕ)) → ℕ → Type 0
AreLiftedAt net P lists v = (f : List ℕ) → Contains (costs_of lists v) f → IsLifted net P (record { cost = f; node = v })

-- the costs of the node v are the same without its height
abbrev pub IsBareAt : Network → Potential → List (List (List ℕ)) → List (List (List ℕ)) → ℕ → Type 0
IsBareAt net P lists bare v = (c : List ℕ) → Contains (costs_of bare v) c ↔ HasLifted net P lists v c

-- it was found in the same criteria, between the same nodes, over as many nodes
pub record IsSameFind (before after : FoundLists) : Type 0 where
  pub criteria : after.criteria ≡ before.criteria
  pub start : after.start ≡ before.start
  pub target : after.target ≡ before.target
  pub long : length after.lists ≡ length before.lists
