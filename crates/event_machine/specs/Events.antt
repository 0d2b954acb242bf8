-- The single events of the search, when each may happen, and what it does. All that an event doesn't name stays.
-- Sources: Martins 1984; Sanders and Mandow 2013. Drop, what Take asks of the target, and the lesser arc are this
-- project's own.
use Rattle.std.specs.Prelude.{◌≡◌, ◌≢◌, ℕ, ◌<◌, ◌≤◌, ◌⊎◌, ◌↔◌, List, [], ◌∷◌, Contains, IsPermutation}
use Rattle.cost_vector.specs.Costs.{Dominates, Within}
use Rattle.list_laws.specs.Sets.{SameMembers, Loses}
use Rattle.event_machine.specs.Machine.{Task, Beats, SearchState, start_state, Place, settled}
use Rattle.road_network.specs.Labels.{Label, IsSamePair}
use Rattle.event_machine.specs.Machine.{dropped, waiting, entries_at, IsEntry, IsActive, IsBeatenAtTarget, LeadsOn}
use Rattle.event_machine.specs.Machine.{Follows}

-- A waiting label is settled, or dropped; an arc is relaxed from a settled label; a candidate is merged.
pub data Event : Type 0 where
  take : Label → Event
  drop : Label → Event
  relax : Label → ℕ → Event
  merge : Label → Event

-- the same settled, dropped and waiting labels
abbrev pub SameEntries : SearchState → SearchState → Type 0
SameEntries a b = (place : Place) → SameMembers (entries_at a place) (entries_at b place)

-- Of the entries those are kept that Kept holds of, each where it stands, and n comes to stand at the place `to`. In each
-- state to which events lead from the start, a label stands in one place at most.
abbrev pub Becomes : SearchState → (Place → Label → Type 0) → Label → Place → SearchState → Type 0
Becomes before Kept n to after = (place : Place) (y : Label) → Contains (entries_at after place) y
    ↔ ((Contains (entries_at before place) y × Kept place y) ⊎ ((place ≡ to) × (y ≡ n)))

-- the same state: each set has the same members, and the candidates are the same up to order
pub record IsSame (a b : SearchState) : Type 0 where
  pub entries : SameEntries a b
  pub unrelaxed : SameMembers a.unrelaxed b.unrelaxed
  pub candidates : IsPermutation a.candidates b.candidates

-- l may be settled: it waits and is within the limit, no label from which the search still goes on and no settled label
-- of the target dominates it, and no candidate has its node and cost
pub record MayTake (task : Task) (s : SearchState) (l : Label) : Type 0 where
  pub waits : Contains s.waiting l
  pub within : Within task.limit l.cost
  pub undominated : (y : Label) → IsActive s y → ¬ Dominates y.cost l.cost
  pub unbeaten : ¬ IsBeatenAtTarget task s l.cost
  pub alone : (x : Label) → Contains s.candidates x → ¬ IsSamePair x l

-- l moves from the waiting to the settled labels, and the passable arcs that lead on from its node are to be relaxed
pub record Takes (task : Task) (before : SearchState) (l : Label) (after : SearchState) : Type 0 where
  pub may : MayTake task before l
  pub entries : Becomes before (λ _ y. y ≢ l) l settled after
  pub unrelaxed : (p : Label × ℕ) → Contains after.unrelaxed p
      ↔ (Contains before.unrelaxed p ⊎ ((p.0 ≡ l) × LeadsOn task.network l.node p.1))
  pub candidates : IsPermutation before.candidates after.candidates

-- l may be dropped: it waits, and isn't within the limit or a settled label of the target dominates it
pub record MayDrop (task : Task) (s : SearchState) (l : Label) : Type 0 where
  pub waits : Contains s.waiting l
  pub useless : (¬ Within task.limit l.cost) ⊎ IsBeatenAtTarget task s l.cost

-- l moves from the waiting to the dropped labels
pub record Drops (task : Task) (before : SearchState) (l : Label) (after : SearchState) : Type 0 where
  pub may : MayDrop task before l
  pub entries : Becomes before (λ _ y. y ≢ l) l dropped after
  pub unrelaxed : SameMembers after.unrelaxed before.unrelaxed
  pub candidates : IsPermutation before.candidates after.candidates

-- the pair of l and k leaves those that are to be relaxed, and what l gives along arc k comes to the candidates
pub record Relaxes (task : Task) (before : SearchState) (l : Label) (k : ℕ) (after : SearchState) : Type 0 where
  pub may : Contains before.unrelaxed (l, k)
  pub candidate : Label
  pub follows : Follows task.network l candidate
  pub arc : candidate.arc ≡ k
  pub entries : SameEntries after before
  pub unrelaxed : Loses before.unrelaxed (l, k) after.unrelaxed
  pub candidates : IsPermutation (candidate ∷ before.candidates) after.candidates

-- an entry has x's node and cost, and no greater arc: it keeps its arc
pub record KeepsEntry (before : SearchState) (x : Label) (after : SearchState) : Type 0 where
  pub entry : Label
  pub is_entry : IsEntry before entry
  pub same : IsSamePair entry x
  pub lesser : entry.arc ≤ x.arc
  pub entries : SameEntries after before

-- an entry has x's node and cost, and a greater arc: it gets x's arc, and stays settled, dropped or waiting
pub record LowersEntry (before : SearchState) (x : Label) (after : SearchState) : Type 0 where
  pub place : Place
  pub entry : Label
  pub is_entry : Contains (entries_at before place) entry
  pub same : IsSamePair entry x
  pub greater : x.arc < entry.arc
  pub entries : Becomes before (λ _ y. y ≢ entry) x place after

-- no entry has x's node and cost, and an entry of its node dominates it: it is discarded
pub record Discards (before : SearchState) (x : Label) (after : SearchState) : Type 0 where
  pub new : (y : Label) → IsEntry before y → ¬ IsSamePair y x
  pub entry : Label
  pub is_entry : IsEntry before entry
  pub beats : Beats entry x
  pub entries : SameEntries after before

-- no entry has x's node and cost, and none of its node dominates it: it waits, and those that it dominates leave, if
-- they wait or were dropped
pub record Enters (before : SearchState) (x : Label) (after : SearchState) : Type 0 where
  pub new : (y : Label) → IsEntry before y → ¬ IsSamePair y x
  pub unbeaten : (y : Label) → IsEntry before y → ¬ Beats y x
  pub entries : Becomes before (λ place y. (place ≡ settled) ⊎ (¬ Beats x y)) x waiting after

-- what becomes of the entries where x is merged
pub data IsMerged (before : SearchState) (x : Label) (after : SearchState) : Type 0 where
  keeps : KeepsEntry before x after → IsMerged before x after
  lowers : LowersEntry before x after → IsMerged before x after
  discards : Discards before x after → IsMerged before x after
  enters : Enters before x after → IsMerged before x after

-- x leaves the candidates, and is compared with the entries of its node
pub record Merges (before : SearchState) (x : Label) (after : SearchState) : Type 0 where
  pub candidates : IsPermutation before.candidates (x ∷ after.candidates)
  pub unrelaxed : SameMembers after.unrelaxed before.unrelaxed
  pub entries : IsMerged before x after

-- the event may happen
abbrev pub May : Task → SearchState → Event → Type 0
May task s (take l) = MayTake task s l
May task s (drop l) = MayDrop task s l
May task s (relax l k) = Contains s.unrelaxed (l, k) × LeadsOn task.network l.node k
May task s (merge x) = Contains s.candidates x

-- the event may happen in the state before, and leads to the state after
abbrev pub Happens : Task → SearchState → Event → SearchState → Type 0
Happens task before (take l) after = Takes task before l after
Happens task before (drop l) after = Drops task before l after
Happens task before (relax l k) after = Relaxes task before l k after
Happens task before (merge x) after = Merges before x after

-- the event happens in the state before, or one that is the same, and leads to a state from which the rest goes on
pub record GoesOn (task : Task) (before : SearchState) (event : Event) (Rest : SearchState → Type 0) : Type 0 where
  pub from : SearchState
  pub same : IsSame from before
  pub next : SearchState
  pub step : Happens task from event next
  pub rest : Rest next

-- The events may happen one after another, and lead from one state to the other. No event leads to each same state.
abbrev pub Runs : Task → SearchState → List Event → SearchState → Type 0
Runs task before [] after = IsSame after before
Runs task before (event ∷ rest) after = GoesOn task before event (λ next. Runs task next rest after)

-- some events lead from the start to the state
pub record IsReached (task : Task) (s : SearchState) : Type 0 where
  pub events : List Event
  pub run : Runs task (start_state task) events s
