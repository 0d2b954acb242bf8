-- For which states of the event machine a core stands. It tells their settled and their waiting spots; which labels were
-- dropped, and all arcs, are any that fit.
use Rattle.std.specs.Prelude.{◌≡◌, ℕ, ◌⊎◌, ◌↔◌, List, [], Contains}
use Rattle.cost_vector.specs.Costs.{AtMost}
use Rattle.road_network.specs.Network.{Network}
use Rattle.road_network.specs.Labels.{Label}
use Rattle.event_machine.specs.Machine.{Task, IsTask, SearchState, HasSettled, LeadsOn}
use Rattle.event_machine.specs.Events.{IsReached}
use Rattle.bulk_rounds.specs.Cores.{Core, IsBarred, IsSpent, Spot, Waits, costs_at}

-- the label's node and cost
abbrev pub as_spot : Label → Spot
as_spot y = record { cost = y.cost; node = y.node }

-- a waiting label of the spot's node costs at most as much
pub record HasWaitingBelow (s : SearchState) (x : Spot) : Type 0 where
  pub label : Label
  pub waits : Contains s.waiting label
  pub node : label.node ≡ x.node
  pub at_most : AtMost label.cost x.cost

-- The core stands for this state of the machine: the same costs are settled; a waiting label's spot waits, or is barred; a spot
-- that waits is spent, or a waiting label lies below it; the arcs that lead on from the taken labels are to be relaxed; and there
-- is no candidate.
pub record StandsFor (net : Network) (core : Core) (s : SearchState) : Type 0 where
  pub settled : (v : ℕ) (c : List ℕ) → Contains (costs_at core v) c ↔ HasSettled s v c
  pub waiting_in : (y : Label) → Contains s.waiting y → Waits core (as_spot y) ⊎ IsBarred core y.cost
  pub waiting_of : (x : Spot) → Waits core x → IsSpent core x ⊎ HasWaitingBelow s x
  pub unrelaxed : (p : Label × ℕ) → Contains s.unrelaxed p
      ↔ (Contains s.settled p.0 × Contains core.taken (as_spot p.0) × LeadsOn net p.0.node p.1)
  pub candidates : s.candidates ≡ []
  pub taken : (x : Spot) → Contains core.taken x → HasSettled s x.node x.cost

-- the core searches for this task
pub record IsSearchOf (task : Task) (core : Core) : Type 0 where
  pub is_task : IsTask task
  pub nodes : task.network.nodes ≡ core.nodes
  pub criteria : task.network.criteria ≡ core.criteria
  pub start : task.start ≡ core.start
  pub target : task.target ≡ core.target
  pub limit : task.limit ≡ core.limit

-- the core searches for the task, events lead from its start to the state, and the core stands for it
pub record IsAt (task : Task) (core : Core) (s : SearchState) : Type 0 where
  pub search : IsSearchOf task core
  pub reached : IsReached task s
  pub stands : StandsFor task.network core s
