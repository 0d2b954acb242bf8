-- How a round ends, by values, and what the candidates of the machine's rounds are.
use Rattle.std.specs.Prelude.{◌≡◌, ◌⊎◌, ◌↔◌, List, []}
use Rattle.cost_vector.specs.Costs.{AtMost}
use Rattle.road_network.specs.Network.{Network}
use Rattle.road_network.specs.Labels.{Label}
use Rattle.event_machine.specs.Machine.{Task, SearchState}
use Rattle.event_machine.specs.Events.{Event, Runs}
use Rattle.event_machine.specs.Orders.{Completes, IsArrival, IsOutcome}
use Rattle.bulk_rounds.specs.Cores.{Core, HasSpot, IsSpent, Item, SameSearch, Spot, Waits}
use Rattle.bulk_rounds.specs.Standing.{IsAt, as_spot}

-- the candidates have just the spots of what the labels of the open round give along the arcs that lead on from them
abbrev pub AreArrivals : Network → SearchState → List Item → Type 0
AreArrivals net s candidates = (x : Spot) → HasSpot candidates x ↔ ((y : Label) × IsArrival net s y × (as_spot y ≡ x))

-- one of the items is of the spot's node and costs at most as much
pub record HasItemBelow (items : List Item) (x : Spot) : Type 0 where
  pub spot : Spot
  pub there : HasSpot items spot
  pub node : spot.node ≡ x.node
  pub at_most : AtMost spot.cost x.cost

-- Of the candidates some come to what waits: each other one is spent, or costs at least as much as one of these at its node.
pub record PutsAll (candidates : List Item) (before after : Core) : Type 0 where
  pub same_search : SameSearch before after
  pub settled : after.settled ≡ before.settled
  pub none_taken : after.taken ≡ []
  pub put : List Item
  pub queue : (x : Spot) → Waits after x ↔ (Waits before x ⊎ HasSpot put x)
  pub among : (x : Spot) → HasSpot put x → HasSpot candidates x
  pub rest : (x : Spot) → HasSpot candidates x → IsSpent before x ⊎ HasItemBelow put x

-- Where these candidates arrive, the core stands afterwards for the state in which all are merged; and so for that to which each
-- list of events leads that relaxes each arc and merges each candidate once, after it was relaxed.
pub record FinishesRound (candidates : List Item) (before after : Core) : Type 0 where
  pub outcome : (task : Task) (s end : SearchState) → IsAt task before s → AreArrivals task.network s candidates
      → IsOutcome task.network s end → IsAt task after end
  pub each_order : (task : Task) (s end : SearchState) (events : List Event) → IsAt task before s
      → AreArrivals task.network s candidates → Completes task.network s events → Runs task s events end → IsAt task after end
