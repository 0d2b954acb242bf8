-- What waits in a search, and its order.
use Rattle.std.specs.Prelude.{◌≡◌, ℕ, ◌≤◌, List}
use Rattle.std.specs.declared.cmp.Ordering.{Ordering}
use Rattle.std.specs.declared.cmp.Ordering.TheVariants.{Less}
use Rattle.std.specs.Ordering.{nat_cmp, ordering_then}
use Rattle.cost_vector.specs.Costs.{lex_cmp, max_criteria, min_criteria}
use Rattle.waiting_item.specs.declared.item.Item.{Item}

-- so many criteria are allowed
abbrev pub AreCriteria : ℕ → Type 0
AreCriteria d = (min_criteria ≤ d) × (d ≤ max_criteria)

-- a node, reached at a cost
pub record Spot : Type 0 where
  pub cost : List ℕ
  pub node : ℕ

-- a spot, and the node from which it was reached, or 0 where the search starts
pub record Waiting : Type 0 where
  pub spot : Spot
  pub from : ℕ

-- the spot of what waits
abbrev pub spot_of : Waiting → Spot
spot_of w = w.spot

-- by cost, and then by node
abbrev pub spot_cmp : Spot → Spot → Ordering
spot_cmp a b = ordering_then (lex_cmp a.cost b.cost) (nat_cmp a.node b.node)

-- the order of spots
abbrev pub SpotLess : Spot → Spot → Type 0
SpotLess a b = spot_cmp a b ≡ Less

-- costs have these components
module _ {C : Type 0} (components : C → List ℕ) where
  -- the spot of an item
  abbrev pub spot_in : Item C → Spot
  spot_in i = record { cost = components i.cost; node = i.node.0 }

  -- what an item says
  abbrev pub as_waiting : Item C → Waiting
  as_waiting i = record { spot = spot_in i; from = i.from.0 }
