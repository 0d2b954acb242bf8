-- Where a search goes on from what it has taken, and whether there is room for what this costs.
use Rattle.std.specs.Prelude.{ℕ, ◌<◌, List, map, filter, flat_map, not, nat_eq, All, Contains}
use Rattle.cost_vector.specs.declared.label.Label.{Label}
use Rattle.road_network.specs.Network.{Network}
use Rattle.arc_graph.specs.Graph.{relaxed}
use Rattle.waiting_item.specs.Waiting.{Waiting}

-- the label's spot, reached from node u
abbrev pub reached_from : ℕ → Label → Waiting
reached_from u l = record { spot = record { cost = l.cost; node = l.node.0 }; from = u }

-- for each passable arc that leads from the spot's node, but not straight back, the arc's head at the cost with the arc's vector
-- added, by ascending arc
abbrev pub onward : Network → Waiting → List Waiting
onward net w = filter (λ x. not (nat_eq x.spot.node w.from)) (map (reached_from w.spot.node) (relaxed net w.spot.node w.spot.cost))

-- those of all that was taken, in its order
abbrev pub onward_of : Network → List Waiting → List Waiting
onward_of net taken = flat_map (onward net) taken

-- each component is below the bound
abbrev pub HaveRoom : ℕ → List Waiting → Type 0
HaveRoom bound ws = All (λ w. All (λ x. x < bound) w.spot.cost) ws

-- some component isn't below the bound
pub record IsTooWide (bound : ℕ) (ws : List Waiting) : Type 0 where
  pub one : Waiting
  pub member : Contains ws one
  pub exceeds : ¬ All (λ x. x < bound) one.spot.cost
