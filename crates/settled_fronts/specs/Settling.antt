-- What is settled at once in the fronts of several nodes.
use Rattle.std.specs.Prelude.{◌≡◌, ◌≢◌, ℕ, ◌<◌, ◌⊎◌, ◌↔◌, List, map, slice_index, All, AllPairs, Contains}
use Rattle.cost_vector.specs.Costs.{AtMost, Dominates}
use Rattle.settled_front.specs.Fronts.{IsCovered}
use Rattle.settled_fronts.specs.NodeFronts.{AreStored, Fronts, costs_at}
use Rattle.road_network.specs.Network.{IsNode}
use Rattle.waiting_item.specs.Waiting.{AreCriteria, Spot}
use Rattle.waiting_item.specs.declared.item.Item.{Item}

-- no cost is at most those of the spots at this node, and they dominate none
pub record Admits (spots : List Spot) (node : ℕ) (costs : List (List ℕ)) : Type 0 where
  pub uncovered : (x : Spot) → Contains spots x → x.node ≡ node → ¬ IsCovered costs x.cost
  pub spares : (x : Spot) → Contains spots x → x.node ≡ node → (e : List ℕ) → Contains costs e → ¬ Dominates x.cost e

-- the spots differ, and of none the cost is at most that of another of its node
pub record AreApart (spots : List Spot) : Type 0 where
  pub apart : (x y : Spot) → Contains spots x → Contains spots y → x.node ≡ y.node → AtMost x.cost y.cost → x ≡ y
  pub once : AllPairs ◌≢◌ spots

-- The spots are of nodes, and may be settled all.
pub record CanSettle (f : Fronts) (spots : List Spot) : Type 0 where
  pub nodes : (x : Spot) → Contains spots x → IsNode f.nodes x.node
  pub admits : (v : ℕ) → Admits spots v (costs_at f v)
  pub apart : AreApart spots

-- the spot is settled
abbrev pub IsSettledIn : Fronts → Spot → Type 0
IsSettledIn f x = Contains (costs_at f x.node) x.cost

-- the spots are settled beside what was
pub record SettlesAll (before after : Fronts) (spots : List Spot) : Type 0 where
  pub nodes : after.nodes ≡ before.nodes
  pub settled : (x : Spot) → IsSettledIn after x ↔ (IsSettledIn before x ⊎ Contains spots x)

-- ---- how they are settled: at the places of their nodes' fronts

-- the spots, each at the place of its node's front
abbrev pub placed : List ℕ → List Spot → List Spot
placed places spots = map (λ x. record { cost = x.cost; node = slice_index places x.node }) spots

-- so many criteria are allowed, the items' nodes have places, and the spots are apart
pub record CanSettleAt {C : Type 0} (d places : ℕ) (spots : List Spot) (items : List (Item C)) : Type 0 where
  pub criteria : AreCriteria d
  pub within : All (λ i. i.node.0 < places) items
  pub apart : AreApart spots

-- the spots of this place are settled there beside what was
pub record Settles (bound : ℕ) (spots : List Spot) (place : ℕ) (before after : List (List ℕ)) : Type 0 where
  pub settled : (c : List ℕ) → Contains after c ↔ (Contains before c ⊎ Contains spots (record { cost = c; node = place }))
  pub stored : AreStored bound before → AreStored bound after
  pub same : ((x : Spot) → Contains spots x → x.node ≢ place) → after ≡ before
