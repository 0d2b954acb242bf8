-- The settled costs of all nodes, and how they are kept.
use Rattle.std.specs.Prelude.{◌≡◌, ◌≢◌, ℕ, ◌+◌, ◌-◌, ◌<◌, ◌≤◌, List, [], ◌∷◌, ◌++◌, length, map, nat_lt, slice_index, slice_index_or, All, AllPairs}
use Rattle.std.specs.List.{count_by, sum_by}
use Rattle.cost_vector.specs.Costs.{min_criteria, max_criteria}
use Rattle.road_network.specs.Limits.{max_nodes}

-- How many nodes there are; and for each number up to it, from 0, a list of costs, of which membership alone counts. Number 0
-- is no node, and its list is empty.
pub record Fronts : Type 0 where
  pub nodes : ℕ
  pub costs : List (List (List ℕ))

-- the settled costs of the node v
abbrev pub costs_at : Fronts → ℕ → List (List ℕ)
costs_at f v = slice_index_or f.costs v []

-- the pairs of a node and a cost, of the nodes from n on, whose settled costs these are
abbrev pub pairs_from : ℕ → List (List (List ℕ)) → List (ℕ × List ℕ)
pairs_from n [] = []
pairs_from n (costs ∷ others) = map (λ c. (n, c)) costs ++ pairs_from (n + 1) others

-- all settled pairs
abbrev pub settled_pairs : Fronts → List (ℕ × List ℕ)
settled_pairs f = pairs_from 0 f.costs

-- but for the node v all has stayed
pub record SameElsewhere (v : ℕ) (before after : Fronts) : Type 0 where
  pub nodes : after.nodes ≡ before.nodes
  pub others : (w : ℕ) → w ≢ v → costs_at after w ≡ costs_at before w

-- each cost stands there once, and its components are below the bound
pub record AreStored (bound : ℕ) (costs : List (List ℕ)) : Type 0 where
  pub once : AllPairs ◌≢◌ costs
  pub fits : All (All (λ x. x < bound)) costs

-- Costs of 2 to 4 criteria are kept, of no more nodes than there can be, with room for components below the bound.
pub record AreFronts (d bound : ℕ) (f : Fronts) : Type 0 where
  pub two : min_criteria ≤ d
  pub four : d ≤ max_criteria
  pub nodes : f.nodes ≤ max_nodes
  pub stored : (v : ℕ) → AreStored bound (costs_at f v)

-- ---- how they are kept: of each node the place of its list among those that were begun, or 0

-- the costs of each number
abbrev pub costs_by : List ℕ → List (List (List ℕ)) → List (List (List ℕ))
costs_by places begun = map (λ k. slice_index_or begun k []) places

-- the fronts that are kept so
abbrev pub kept_fronts : List ℕ → List (List (List ℕ)) → Fronts
kept_fronts places begun = record { nodes = length places - 1; costs = costs_by places begun }

-- The places of so many lists. All nodes that have no settled cost share the first one, and each other one is a single node's.
pub record IsPlaced (places : List ℕ) (lists : ℕ) : Type 0 where
  pub some : 0 < length places
  pub few : lists ≤ count_by (λ k. nat_lt 0 k) places + 1
  pub within : All (λ k. k < lists) places
  pub own : (v w : ℕ) → slice_index places v ≡ slice_index places w → slice_index places v ≢ 0 → v ≡ w

-- Fronts in 2 to 4 criteria, with room for components below the bound. The first list is empty, and each other one counts once.
pub record IsKept (d bound : ℕ) (places : List ℕ) (begun : List (List (List ℕ))) : Type 0 where
  pub placed : IsPlaced places (length begun)
  pub first : slice_index_or begun 0 [] ≡ []
  pub counted : sum_by length (costs_by places begun) ≡ sum_by length begun
  pub fronts : AreFronts d bound (kept_fronts places begun)
