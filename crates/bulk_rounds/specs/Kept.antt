-- What a core keeps, by its own values: no state of the event machine is named.
use Rattle.std.specs.Prelude.{◌≢◌, ℕ, ◌≤◌, List, Contains}
use Rattle.cost_vector.specs.Costs.{Dominates}
use Rattle.road_network.specs.Network.{IsNode}
use Rattle.bulk_rounds.specs.Cores.{Core, IsCoveredIn, Item, Spot, costs_at}
use Rattle.bulk_rounds.specs.Taking.{CountsSettled}

-- the spot dominates no settled cost of its node
abbrev pub SparesSettled : Core → Spot → Type 0
SparesSettled core x = (e : List ℕ) → Contains (costs_at core x.node) e → ¬ Dominates x.cost e

-- where the item tells from which node it came, a settled cost there is at most its cost
abbrev pub IsFrom : Core → Item → Type 0
IsFrom core i = i.from ≢ 0 → IsCoveredIn core (record { cost = i.spot.cost; node = i.from })

-- the item is of a node, dominates no settled cost there, and came from a settled one
pub record IsKeptItem (core : Core) (i : Item) : Type 0 where
  pub node : IsNode core.nodes i.spot.node
  pub spares : SparesSettled core i.spot
  pub from : IsFrom core i

-- Start and target are nodes, each item that waits is such, and so many spots are settled, within the budget.
pub record IsKept (core : Core) (count : ℕ) : Type 0 where
  pub start_node : IsNode core.nodes core.start
  pub target_node : IsNode core.nodes core.target
  pub items : (i : Item) → Contains core.queue i → IsKeptItem core i
  pub counted : CountsSettled core count
  pub within : count ≤ core.budget
