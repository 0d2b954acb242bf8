-- The search by bulk rounds, in which all labels are settled that no waiting label dominates (Sanders and Mandow 2013).
use Rattle.std.specs.Prelude.{◌≡◌, ℕ, zero, suc, ◌⊎◌, List, [], map, Contains, IsPermutation}
use Rattle.cost_vector.specs.Costs.{Dominates}
use Rattle.list_laws.specs.Sets.{ListsOnce, HasMoreThan}
use Rattle.event_machine.specs.Machine.{Task, SearchState, start_state}
use Rattle.road_network.specs.Labels.{Label}
use Rattle.event_machine.specs.Events.{Event, take, drop, relax, merge, IsSame, MayDrop, Runs}

-- no arc is to be relaxed and no candidate to be merged
pub record IsBetweenRounds (s : SearchState) : Type 0 where
  pub unrelaxed : s.unrelaxed ≡ []
  pub candidates : s.candidates ≡ []

-- y stands in the list, and no label of the list dominates it
pub record IsUndominated (labels : List Label) (y : Label) : Type 0 where
  pub member : Contains labels y
  pub none_better : (z : Label) → Contains labels z → ¬ Dominates z.cost y.cost

-- the event that relaxes a pair of a label and an arc
abbrev pub relaxing : Label × ℕ → Event
relaxing p = relax p.0 p.1

-- A round begins: each label that may be dropped is dropped, and then each waiting label is taken that none dominates.
pub record Begins (task : Task) (before after : SearchState) : Type 0 where
  pub drops : List Label
  pub each_drop : ListsOnce (MayDrop task before) drops
  pub left : SearchState
  pub dropping : Runs task before (map (λ l. drop l) drops) left
  pub takes : List Label
  pub each_take : ListsOnce (IsUndominated left.waiting) takes
  pub taking : Runs task left (map (λ l. take l) takes) after

-- It ends: each arc that is to be relaxed is relaxed, and then each candidate is merged.
pub record Finishes (task : Task) (before after : SearchState) : Type 0 where
  pub relaxes : List (Label × ℕ)
  pub each_relax : ListsOnce (Contains before.unrelaxed) relaxes
  pub relaxed : SearchState
  pub relaxing_all : Runs task before (map relaxing relaxes) relaxed
  pub merges : List Label
  pub each_merge : IsPermutation relaxed.candidates merges
  pub merging_all : Runs task relaxed (map (λ x. merge x) merges) after

-- a bulk round
pub record Round (task : Task) (before after : SearchState) : Type 0 where
  pub between : IsBetweenRounds before
  pub begun : SearchState
  pub begins : Begins task before begun
  pub finishes : Finishes task begun after

-- a round in which some label waits after the drops
pub record CountedRound (task : Task) (before after : SearchState) : Type 0 where
  pub round : Round task before after
  pub label : Label
  pub waits : Contains round.begins.left.waiting label

-- at most the budget is settled, and a counted round leads to a state from which the rest goes on
pub record GoesRound (task : Task) (budget : ℕ) (before : SearchState) (Rest : SearchState → Type 0) : Type 0 where
  pub within : ¬ HasMoreThan budget before.settled
  pub next : SearchState
  pub round : CountedRound task before next
  pub rest : Rest next

-- so many counted rounds lead from one state to the other, and at most the budget is settled before each
abbrev pub GoRounds : Task → ℕ → ℕ → SearchState → SearchState → Type 0
GoRounds task budget zero before after = IsSame after before
GoRounds task budget (suc n) before after = GoesRound task budget before (λ next. GoRounds task budget n next after)

-- each waiting label may be dropped
abbrev pub NoneStays : Task → SearchState → Type 0
NoneStays task s = (l : Label) → Contains s.waiting l → MayDrop task s l

-- After n counted rounds more than the budget is settled, or nothing waits after the drops, for the first time.
pub record Rounds (task : Task) (budget n : ℕ) : Type 0 where
  pub last : SearchState
  pub rounds : GoRounds task budget n (start_state task) last
  pub stops : HasMoreThan budget last.settled ⊎ NoneStays task last
