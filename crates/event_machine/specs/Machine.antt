-- The state of a label-setting search for all best costs, which settles labels in any order that is safe.
-- Sources: Martins 1984; P. Sanders and L. Mandow, "Parallel label-setting multi-objective shortest path search",
-- IPDPS 2013.
use Rattle.std.specs.Prelude.{◌≡◌, ℕ, List, [], ◌∷◌, Option, length, replicate, Contains}
use Rattle.cost_vector.specs.Costs.{Dominates, plus}
use Rattle.road_network.specs.Network.{Network, IsNetwork, IsNode, Leads}
use Rattle.road_network.specs.Labels.{Label}

-- what is searched: the walks of a network from one node to another, within a limit
pub record Task : Type 0 where
  pub network : Network
  pub start : ℕ
  pub target : ℕ
  pub limit : List (Option ℕ)

-- the network is one, both are nodes of it, and the limit has a place for each criterion
pub record IsTask (task : Task) : Type 0 where
  pub network : IsNetwork task.network
  pub start : IsNode task.network.nodes task.start
  pub target : IsNode task.network.nodes task.target
  pub limit : length task.limit ≡ task.network.criteria

-- x is of y's node, and its cost dominates y's
pub record Beats (x y : Label) : Type 0 where
  pub node : x.node ≡ y.node
  pub cost : Dominates x.cost y.cost

-- The settled, the dropped and the waiting labels, the pairs of a settled label and the number of an arc that is still
-- to be relaxed, and the candidates that are still to be merged. The first four lists stand for sets; a candidate may
-- stand in its list several times.
pub record SearchState : Type 0 where
  pub settled : List Label
  pub dropped : List Label
  pub waiting : List Label
  pub unrelaxed : List (Label × ℕ)
  pub candidates : List Label

-- the label of the walk without arcs
abbrev pub start_label : Task → Label
start_label task = record { node = task.start; cost = replicate task.network.criteria 0; arc = 0 }

-- at the start this label waits, and all else is empty
abbrev pub start_state : Task → SearchState
start_state task =
    record { settled = []; dropped = []; waiting = start_label task ∷ []; unrelaxed = []; candidates = [] }

-- where an entry of a node stands
pub data Place : Type 0 where
  settled dropped waiting : Place

-- the entries that stand there
abbrev pub entries_at : SearchState → Place → List Label
entries_at s settled = s.settled
entries_at s dropped = s.dropped
entries_at s waiting = s.waiting

-- y is an entry of its node: a settled, a dropped or a waiting label
abbrev pub IsEntry : SearchState → Label → Type 0
IsEntry s y = (place : Place) × Contains (entries_at s place) y

-- the search still goes on from the label: it waits, is a candidate, or has an arc that is still to be relaxed
pub data IsActive (s : SearchState) (y : Label) : Type 0 where
  waits : Contains s.waiting y → IsActive s y
  is_candidate : Contains s.candidates y → IsActive s y
  has_arc : (k : ℕ) → Contains s.unrelaxed (y, k) → IsActive s y

-- some settled label is of this node and this cost
pub record HasSettled (s : SearchState) (v : ℕ) (c : List ℕ) : Type 0 where
  pub label : Label
  pub settled : Contains s.settled label
  pub node : label.node ≡ v
  pub cost : label.cost ≡ c

-- the cost of some settled label of the target dominates c
pub record IsBeatenAtTarget (task : Task) (s : SearchState) (c : List ℕ) : Type 0 where
  pub by : Label
  pub settled : Contains s.settled by
  pub node : by.node ≡ task.target
  pub dominates : Dominates by.cost c

-- arc k leads on from the node u, and is passable
pub record LeadsOn (net : Network) (u k : ℕ) : Type 0 where
  pub by : List ℕ
  pub to : ℕ
  pub leads : Leads net k u by to

-- x is what the label e gives along x's arc: the arc leads from e's node to x's, and its vector is added to e's cost
pub record Follows (net : Network) (e x : Label) : Type 0 where
  pub by : List ℕ
  pub leads : Leads net x.arc e.node by x.node
  pub cost : x.cost ≡ plus e.cost by
