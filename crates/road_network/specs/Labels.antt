-- The labels that a search gives to nodes.
use Rattle.std.specs.Prelude.{◌≡◌, ℕ, List, reverse, slice_index}
use Rattle.road_network.specs.Network.{Network}
use Rattle.road_network.specs.Best.{IsBackwardLeast}

-- A label: some walk from the start to the node has this cost and this last arc, or no arc where the number is 0.
pub record Label : Type 0 where
  pub node : ℕ
  pub cost : List ℕ
  pub arc : ℕ

-- both labels are of one node and one cost
pub record IsSamePair (x y : Label) : Type 0 where
  pub node : x.node ≡ y.node
  pub cost : x.cost ≡ y.cost

-- the number of a walk's last arc, which is the first one backwards, or 0 for the walk without arcs
abbrev pub last_arc : List ℕ → ℕ
last_arc p = slice_index (reverse p) 0

-- the label's arc is the last arc of the backward-least walk of its cost
pub record HasLeastArc (net : Network) (s : ℕ) (l : Label) : Type 0 where
  pub walk : List ℕ
  pub least : IsBackwardLeast net s l.node l.cost walk
  pub arc : l.arc ≡ last_arc walk
