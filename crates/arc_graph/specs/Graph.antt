-- A network in two parts, the graph and the states of its arcs, and what relaxing a label gives.
use Rattle.std.specs.Prelude.{◌≡◌, ℕ, ◌+◌, ◌-◌, ◌^◌, ◌<◌, ◌≤◌, ◌==◌, List, [], ◌∷◌, Option, IfSome, length, map, All}
use Rattle.std.specs.Prelude.{slice_get, if◌then◌else◌}
use Rattle.std.specs.List.{filter_map}
use Rattle.std.specs.Option.{option_map, option_map_or, option_and_then}
use Rattle.cost_vector.specs.declared.label.ArcNo.{ArcNo}
use Rattle.cost_vector.specs.declared.label.Label.{Label}
use Rattle.cost_vector.specs.Costs.{plus, max_criteria, min_criteria}
use Rattle.road_network.specs.Network.{Network, AreSmall, IsNetwork, IsNode, IsVector, Leads}
use Rattle.road_network.specs.Limits.{max_nodes, max_arcs}

-- the nodes, the tail and the head of each arc, and the number of criteria
pub record Graph : Type 0 where
  pub nodes : ℕ
  pub criteria : ℕ
  pub ends : List (ℕ × ℕ)

-- for each arc its vector, or None where it is shut
pub record Weights : Type 0 where
  pub criteria : ℕ
  pub states : List (Option (List ℕ))

-- the graph is within the limits, and its ends are nodes
pub record IsGraph (g : Graph) : Type 0 where
  pub some_node : 1 ≤ g.nodes
  pub nodes : g.nodes ≤ max_nodes
  pub arcs : length g.ends ≤ max_arcs
  pub two : min_criteria ≤ g.criteria
  pub four : g.criteria ≤ max_criteria
  pub tails : All (λ e. IsNode g.nodes e.0) g.ends
  pub heads : All (λ e. IsNode g.nodes e.1) g.ends

-- each vector has a weight for each criterion, of 32 bits, and isn't all zero
pub record AreWeights (w : Weights) : Type 0 where
  pub vectors : All (λ s. IfSome s (IsVector w.criteria)) w.states
  pub small : AreSmall w.states

-- the states are those of the graph's arcs
pub record Match (g : Graph) (w : Weights) : Type 0 where
  pub criteria : w.criteria ≡ g.criteria
  pub arcs : length w.states ≡ length g.ends

-- both parts together
abbrev pub network : Graph → Weights → Network
network g w = record { nodes = g.nodes; ends = g.ends; criteria = g.criteria; states = w.states }

-- a graph and weights of its arcs
pub record IsInParts (g : Graph) (w : Weights) : Type 0 where
  pub graph : IsGraph g
  pub weights : AreWeights w
  pub matched : Match g w

-- a network within the limits, with weights of 32 bits
pub record IsRoadNetwork (net : Network) : Type 0 where
  pub network : IsNetwork net
  pub some_node : 1 ≤ net.nodes
  pub nodes : net.nodes ≤ max_nodes
  pub arcs : length net.ends ≤ max_arcs
  pub small : AreSmall net.states

-- the numbers of the arcs with this tail, ascending, where the list's first arc has the number k
abbrev pub numbers_from : ℕ → List (ℕ × ℕ) → ℕ → List ArcNo
numbers_from k [] tail = []
numbers_from k (e ∷ es) tail =
    if e.0 == tail then record { 0 = k } ∷ numbers_from (k + 1) es tail else numbers_from (k + 1) es tail

-- the arcs that lead from a node, ascending
abbrev pub out_arcs_of : List (ℕ × ℕ) → ℕ → List ArcNo
out_arcs_of ends tail = numbers_from 1 ends tail

-- the arcs, each turned round
abbrev pub turned : List (ℕ × ℕ) → List (ℕ × ℕ)
turned ends = map (λ e. (e.1, e.0)) ends

-- the arcs that lead to a node, ascending
abbrev pub in_arcs_of : List (ℕ × ℕ) → ℕ → List ArcNo
in_arcs_of ends head = numbers_from 1 (turned ends) head

-- the tail of an arc, counted from 1
abbrev pub tail_of : List (ℕ × ℕ) → ArcNo → ℕ
tail_of ends a = option_map_or (λ (e : ℕ × ℕ). e.0) (slice_get ends (a.0 - 1)) 0

-- the head of an arc, counted from 1
abbrev pub head_of : List (ℕ × ℕ) → ArcNo → ℕ
head_of ends a = option_map_or (λ (e : ℕ × ℕ). e.1) (slice_get ends (a.0 - 1)) 0

-- the state of an arc, counted from 1
abbrev pub arc_state : List (Option (List ℕ)) → ArcNo → Option (List ℕ)
arc_state states a = option_and_then (λ s. s) (slice_get states (a.0 - 1))

-- the label that a walk of this cost gets by going on along an arc, unless it is shut
abbrev pub label_by : Network → List ℕ → ArcNo → Option Label
label_by net cost a =
    option_map (λ v. record { node = record { 0 = head_of net.ends a }; cost = plus cost v; arc = a }) (arc_state net.states a)

-- the labels of all passable arcs that lead from a node, by ascending arc
abbrev pub relaxed : Network → ℕ → List ℕ → List Label
relaxed net node cost = filter_map (label_by net cost) (out_arcs_of net.ends node)

-- the label that a walk of cost c gets by going on along arc k, by this vector to v
abbrev pub label_over : ℕ → ℕ → List ℕ → List ℕ → Label
label_over k v c by = record { node = record { 0 = v }; cost = plus c by; arc = record { 0 = k } }

-- The label is that of an arc that leads on from u, where a walk of cost c has come to u.
pub record ComesOf (net : Network) (u : ℕ) (c : List ℕ) (l : Label) : Type 0 where
  pub by : List ℕ
  pub leads : Leads net l.arc.0 u by l.node.0
  pub cost : l.cost ≡ plus c by

-- each number fits 64 bits
abbrev pub Fits : List ℕ → Type 0
Fits cost = All (λ x. x < 2 ^ 64) cost

-- each sum of the cost and the vector of an arc that leads on from the node fits
abbrev pub SumsFit : Network → ℕ → List ℕ → Type 0
SumsFit net node cost = (k v : ℕ) (by : List ℕ) → Leads net k node by v → Fits (plus cost by)
