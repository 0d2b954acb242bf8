-- In which orders the events of a round may happen, and the one state to which all of these lead.
use Rattle.std.specs.Prelude.{◌≡◌, ℕ, ◌≤◌, ◌⊎◌, ◌↔◌, List, [], AllPairs, Contains, IsPermutation}
use Rattle.cost_vector.specs.Costs.{Dominates}
use Rattle.road_network.specs.Network.{Network}
use Rattle.list_laws.specs.Sets.{ListsOnce}
use Rattle.event_machine.specs.Machine.{Task, Beats, SearchState, Place, settled, dropped, waiting, entries_at, IsEntry}
use Rattle.road_network.specs.Labels.{Label, IsSamePair}
use Rattle.event_machine.specs.Machine.{LeadsOn, Follows}
use Rattle.event_machine.specs.Events.{Event, relax, merge, MayDrop}

-- ---- the first half of a round

-- y waits, and may not be dropped
pub record Stays (task : Task) (s : SearchState) (y : Label) : Type 0 where
  pub waits : Contains s.waiting y
  pub kept : ¬ MayDrop task s y

-- The labels that Chosen holds of come to stand at the place `to`, and those of their pairs with an arc that Opens holds
-- of are to be relaxed; all else stays.
pub record Moves (Chosen : Label → Type 0) (to : Place) (Opens : Label × ℕ → Type 0) (before after : SearchState)
    : Type 0 where
  pub entries : (place : Place) (y : Label) → Contains (entries_at after place) y
      ↔ ((Contains (entries_at before place) y × (¬ Chosen y)) ⊎ ((place ≡ to) × Chosen y))
  pub unrelaxed : (p : Label × ℕ) → Contains after.unrelaxed p
      ↔ (Contains before.unrelaxed p ⊎ (Chosen p.0 × Opens p))
  pub candidates : IsPermutation before.candidates after.candidates

-- what each order of the drops leads to: each label that may be dropped is dropped, and nothing else changes
abbrev pub DropsAll : Task → SearchState → SearchState → Type 0
DropsAll task before after = Moves (MayDrop task before) dropped (λ _. ⊥) before after

-- y is taken next: it stays after the drops, and no label that stays dominates it
pub record IsNext (task : Task) (s : SearchState) (y : Label) : Type 0 where
  pub stays : Stays task s y
  pub none_better : (z : Label) → Stays task s z → ¬ Dominates z.cost y.cost

-- What each order of the drops, and then each order of the takes, leads to from a state between rounds: the labels that
-- may be dropped are dropped, the next ones are settled, and all others stay where they are.
pub record IsBegun (task : Task) (before after : SearchState) : Type 0 where
  pub entries : (place : Place) (y : Label) → Contains (entries_at after place) y
      ↔ ((Contains (entries_at before place) y × (¬ MayDrop task before y) × (¬ IsNext task before y))
      ⊎ (((place ≡ dropped) × MayDrop task before y) ⊎ ((place ≡ settled) × IsNext task before y)))
  pub unrelaxed : (p : Label × ℕ) → Contains after.unrelaxed p
      ↔ (IsNext task before p.0 × LeadsOn task.network p.0.node p.1)
  pub candidates : after.candidates ≡ []

-- ---- the second half

-- an arc that is still to be relaxed gives x
abbrev pub IsGiven : Network → SearchState → Label → Type 0
IsGiven net s x = (e : Label) × Contains s.unrelaxed (e, x.arc) × Follows net e x

-- x arrives: it is a candidate, or an arc that is still to be relaxed gives it
abbrev pub IsArrival : Network → SearchState → Label → Type 0
IsArrival net s x = Contains s.candidates x ⊎ IsGiven net s x

-- the first event merges what the second relaxes
abbrev pub MergesResult : Network → Event → Event → Type 0
MergesResult net (merge x) (relax e k) = (x.arc ≡ k) × Follows net e x
MergesResult net _ _ = ⊥

-- the event is still to happen in the round: it relaxes a pair that is to be relaxed, or merges what arrives
abbrev pub IsToDo : Network → SearchState → Event → Type 0
IsToDo net s (relax l k) = Contains s.unrelaxed (l, k)
IsToDo net s (merge x) = IsArrival net s x
IsToDo net s _ = ⊥

-- The events relax each pair once and merge each arrival once, after it was relaxed, in any order; and they do no more.
pub record Completes (net : Network) (s : SearchState) (events : List Event) : Type 0 where
  pub all : ListsOnce (IsToDo net s) events
  pub in_order : AllPairs (λ a b. ¬ MergesResult net a b) events

-- y survives: of the entries and arrivals of its node none dominates it, and it has the least arc of those of its cost
pub record Survives (net : Network) (s : SearchState) (y : Label) : Type 0 where
  pub present : IsEntry s y ⊎ IsArrival net s y
  pub unbeaten : (z : Label) → IsEntry s z ⊎ IsArrival net s z → ¬ Beats z y
  pub least : (z : Label) → IsEntry s z ⊎ IsArrival net s z → IsSamePair z y → y.arc ≤ z.arc

-- the list has a label of y's node and cost
pub record HasPair (labels : List Label) (y : Label) : Type 0 where
  pub label : Label
  pub member : Contains labels label
  pub same : IsSamePair label y

-- y belongs there: where an entry of its node and cost was settled or dropped, and among the waiting if none was
abbrev pub Belongs : SearchState → Label → Place → Type 0
Belongs before y settled = HasPair before.settled y
Belongs before y dropped = HasPair before.dropped y
Belongs before y waiting = (¬ HasPair before.settled y) × (¬ HasPair before.dropped y)

-- What each such order leads to: the labels that survive, settled or dropped exactly where an entry of the node and
-- cost was so before, and waiting elsewhere.
pub record IsOutcome (net : Network) (before after : SearchState) : Type 0 where
  pub entries : (place : Place) (y : Label) → Contains (entries_at after place) y
      ↔ (Survives net before y × Belongs before y place)
  pub unrelaxed : after.unrelaxed ≡ []
  pub candidates : after.candidates ≡ []
