-- A search between its rounds, and what becomes of it in a round.
use Rattle.std.specs.Prelude.{◌≡◌, ◌≢◌, ℕ, ◌≤◌, ◌⊎◌, List, [], length, AllPairs, Contains}
use Rattle.list_laws.specs.Sets.{HasMoreThan}
use Rattle.road_network.specs.Limits.{max_budget}
use Rattle.road_network.specs.Network.{Network}
use Rattle.road_network.specs.Answers.{Passes}
use Rattle.event_machine.specs.Machine.{Task, SearchState, start_state}
use Rattle.event_machine.specs.Orders.{IsOutcome}
use Rattle.event_machine.specs.Rounds.{GoRounds}
use Rattle.bulk_rounds.specs.Cores.{Core, Item, SameSearch, Spot}
use Rattle.bulk_rounds.specs.Standing.{IsAt}
use Rattle.found_fronts.specs.FoundFronts.{IsOfFronts}
use Rattle.round_work.specs.Survivors.{HasBelow}
use Rattle.waiting_item.specs.Waiting.{spot_of}
use Rattle.walk_readback.specs.Found.{FoundCosts, HasAllRelevant}

-- the list contains so many different things
pub record HasSoMany {X : Type 0} (n : ℕ) (xs : List X) : Type 0 where
  pub members : List X
  pub count : length members ≡ n
  pub distinct : AllPairs ◌≢◌ members
  pub each : (x : X) → Contains members x → Contains xs x

-- So many counted rounds of the task were made, and no round is open. They lead to a state for which the core stands, and
-- in which at least so many labels are settled as there were rounds, and at most the budget.
pub record IsAfter (task : Task) (budget rounds : ℕ) (core : Core) : Type 0 where
  pub budget_is : core.budget ≡ budget
  pub none_taken : core.taken ≡ []
  pub state : SearchState
  pub at : IsAt task core state
  pub go : GoRounds task budget rounds (start_state task) state
  pub settles : HasSoMany rounds state.settled
  pub within : ¬ HasMoreThan budget state.settled

-- a round over this network is open, in which at most the budget is settled
pub record IsOpen (net : Network) (core : Core) : Type 0 where
  pub task : Task
  pub over : task.network ≡ net
  pub state : SearchState
  pub at : IsAt task core state
  pub within : ¬ HasMoreThan core.budget state.settled
  pub few : length core.taken ≤ core.budget
  pub most : core.budget ≤ max_budget

-- Of the candidates some are kept: each other one isn't open, or costs at least as much as one of these at its node.
pub record KeepsEnough (Open : Spot → Type 0) (candidates kept : List Item) : Type 0 where
  pub among : (i : Item) → Contains kept i → Contains candidates i
  pub rest : (i : Item) → Contains candidates i → (¬ Open i.spot) ⊎ HasBelow spot_of kept i.spot

-- The open round over this network has ended: the core stands for the outcome of all orders of its events.
pub record EndsOver (net : Network) (before after : Core) : Type 0 where
  pub same_search : SameSearch before after
  pub none_taken : after.taken ≡ []
  pub outcome : (task : Task) (s end : SearchState) → task.network ≡ net → IsAt task before s
      → IsOutcome net s end → IsAt task after end

-- just what the core has settled was found, in d criteria
abbrev pub FindsAll : ℕ → Core → FoundCosts → Type 0
FindsAll d core = IsOfFronts d core.start core.target (record { nodes = core.nodes; costs = core.settled })

-- what was found is all of the task, which doesn't pass the budget
pub record IsAnswer (task : Task) (budget : ℕ) (f : FoundCosts) : Type 0 where
  pub start : f.start ≡ task.start
  pub target : f.target ≡ task.target
  pub nodes : f.nodes ≡ task.network.nodes
  pub criteria : f.criteria ≡ task.network.criteria
  pub relevant : HasAllRelevant task.network task.limit f
  pub in_budget : ¬ Passes task.network task.start task.target task.limit budget
