-- Rounds whose work is cut into numbered pieces, which workers draw in any order and do side by side.
use Rattle.std.specs.Prelude.{◌≢◌, ℕ, ◌<◌, List, [], length, map, flat_map, slice_index_or}
use Rattle.std.specs.Prelude.{AllPairs, Contains, IsPermutation}
use Rattle.std.specs.List.{AllZip}
use Rattle.road_network.specs.Network.{Network}
use Rattle.list_laws.specs.Sets.{ListsOnce}
use Rattle.event_machine.specs.Machine.{SearchState}
use Rattle.road_network.specs.Labels.{Label}
use Rattle.event_machine.specs.Events.{Event, relax, merge}
use Rattle.event_machine.specs.Orders.{IsArrival}

-- the pieces, joined end to end
abbrev pub joined : {X : Type 0} → List (List X) → List X
joined pieces = flat_map (λ piece. piece) pieces

-- the event relaxes an arc from one of the labels
pub data IsRelaxOf (s : SearchState) (labels : List Label) : Event → Type 0 where
  relaxes : (l : Label) (k : ℕ) → Contains labels l → Contains s.unrelaxed (l, k) → IsRelaxOf s labels (relax l k)

-- The settled labels with arcs to be relaxed are cut into pieces, each label in one, and each piece has its Relax
-- events.
pub record AreRelaxPieces (s : SearchState) (cut : List (List Label)) (pieces : List (List Event)) : Type 0 where
  pub apart : AllPairs ◌≢◌ (joined cut)
  pub each : (l : Label) (k : ℕ) → Contains s.unrelaxed (l, k) → Contains (joined cut) l
  pub events : AllZip (λ labels events. ListsOnce (IsRelaxOf s labels) events) cut pieces

-- The arrivals are cut into pieces, each in one.
abbrev pub AreMergePieces : Network → SearchState → List (List Label) → Type 0
AreMergePieces net s cut = ListsOnce (IsArrival net s) (joined cut)

-- the Merge events of each piece
abbrev pub merges_of : List (List Label) → List (List Event)
merges_of cut = map (λ labels. map (λ x. merge x) labels) cut

-- the events of the pieces of these numbers, piece by piece
abbrev pub events_of : List (List Event) → List ℕ → List Event
events_of pieces numbers = flat_map (λ i. slice_index_or pieces i []) numbers

-- The numbers, from 0, are those of all pieces, each once, in the order in which they were drawn; and the events are
-- those of the pieces so listed, each once, in any order.
pub record AreDoneInPieces (pieces : List (List Event)) (numbers : List ℕ) (events : List Event) : Type 0 where
  pub drawn : ListsOnce (λ i. i < length pieces) numbers
  pub done : IsPermutation (events_of pieces numbers) events
