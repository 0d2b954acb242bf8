-- Changes of the arcs' states, the histories that they make, and the epochs of a history. An operator publishes changes
-- in sets; each set makes a new epoch.
use Rattle.std.specs.Prelude.{◌≡◌, ℕ, ◌+◌, ◌-◌, ◌^◌, ◌<◌, ◌≤◌, Bool, true, false, List, [], ◌∷◌, ◌++◌, Option, Some, None, IfSome}
use Rattle.std.specs.Prelude.{length, take, fold, filter_map, slice_get, slice_set, slice_range, All}
use Rattle.road_network.specs.Limits.{max_epoch}
use Rattle.road_network.specs.Network.{IsVector}
use Rattle.arc_graph.specs.declared.change.Change.{Change}
use Rattle.arc_graph.specs.Graph.{Weights}
use Rattle.arc_graph.specs.Pages.{IsOnPage}

-- the most changes that may be pending
abbrev pub max_pending : ℕ
max_pending = 65536

-- the change is of one of so many arcs, and gives it a vector of so many weights of 32 bits, not all 0, or shuts it
pub record IsChange (arcs criteria : ℕ) (c : Change) : Type 0 where
  pub counted : 1 ≤ c.arc.0
  pub there : c.arc.0 ≤ arcs
  pub vector : IfSome c.weight (IsVector criteria)
  pub small : IfSome c.weight (All (λ x. x < 2 ^ 32))

-- the arc of the change has its new state, and all others have theirs
abbrev pub with_change : Weights → Change → Weights
with_change w c = record { criteria = w.criteria; states = slice_set w.states (c.arc.0 - 1) c.weight }

-- one change after another, so that the last change of an arc stands
abbrev pub with_changes : Weights → List Change → Weights
with_changes w cs = fold with_change w cs

-- a set of changes that was published as one, or that no more are to come
pub data HistoryEntry : Type 0 where
  Changes : List Change → HistoryEntry
  Closed : HistoryEntry

-- all that was published, from the first entry on
abbrev pub History : Type 0
History = List HistoryEntry

-- the changes of an entry
abbrev pub changes_in : HistoryEntry → Option (List Change)
changes_in (Changes cs) = Some cs
changes_in Closed = None

-- the change sets, in order
abbrev pub sets_of : History → List (List Change)
sets_of h = filter_map changes_in h

-- how many change sets there are
abbrev pub sets : History → ℕ
sets h = length (sets_of h)

-- the entry is Closed
abbrev pub is_closed : HistoryEntry → Bool
is_closed (Changes cs) = false
is_closed Closed = true

-- the last entry is Closed
abbrev pub ends_closed : History → Bool
ends_closed [] = false
ends_closed (e ∷ []) = is_closed e
ends_closed (e ∷ d ∷ rest) = ends_closed (d ∷ rest)

-- Well formed for so many arcs and criteria: all changes are of these, and Closed stands only last.
pub record IsHistory (arcs criteria : ℕ) (h : History) : Type 0 where
  pub changes : All (All (IsChange arcs criteria)) (sets_of h)
  pub closed_last : (n : ℕ) → slice_get h n ≡ Some Closed → n + 1 ≡ length h

-- the weights of the epoch after the first k change sets
abbrev pub epoch_after : Weights → History → ℕ → Weights
epoch_after base h k = fold with_changes base (take k (sets_of h))

-- the number of that epoch, where the first has the number `first`
abbrev pub number_after : ℕ → ℕ → ℕ
number_after first k = first + k

-- no change is of an arc of the page
abbrev pub LeavesPage : ℕ → List Change → Type 0
LeavesPage page cs = All (λ c. ¬ IsOnPage page c.arc.0) cs

-- nor is any of the change sets from number i + 1 to k
abbrev pub LeavePage : ℕ → History → ℕ → ℕ → Type 0
LeavePage page h i k = All (LeavesPage page) (slice_range (sets_of h) i k)

-- A history that an operator may have published, for so many arcs and criteria, where its first epoch has this number.
pub record IsPublished (arcs criteria first : ℕ) (h : History) : Type 0 where
  pub history : IsHistory arcs criteria h
  pub sizes : All (λ cs. length cs ≤ max_pending) (sets_of h)
  pub number : number_after first (sets h) ≤ max_epoch

-- what an operator has published, and the changes that are pending until it publishes them
pub record Operator : Type 0 where
  pub published : History
  pub pending : List Change

-- what every operator keeps
pub record IsOperator (arcs criteria first : ℕ) (o : Operator) : Type 0 where
  pub published : IsPublished arcs criteria first o.published
  pub unclosed : ends_closed o.published ≡ false
  pub pending : All (IsChange arcs criteria) o.pending
  pub room : length o.pending ≤ max_pending

-- with one change more pending
abbrev pub with_pending : Operator → Change → Operator
with_pending o c = record { published = o.published; pending = o.pending ++ c ∷ [] }

-- with nothing pending
abbrev pub with_none_pending : Operator → Operator
with_none_pending o = record { published = o.published; pending = [] }

-- with the pending changes published as one set
abbrev pub with_published : Operator → Operator
with_published o = record { published = o.published ++ Changes o.pending ∷ []; pending = [] }

-- the whole history, once the operator has closed it; what was pending isn't published
abbrev pub closed_history : Operator → History
closed_history o = o.published ++ Closed ∷ []
