-- How many rounds a query takes.
use Rattle.std.specs.Prelude.{◌≡◌, ◌≢◌, ℕ, ◌+◌, ◌≤◌, Result, Err}
use Rattle.event_machine.specs.Machine.{Task}
use Rattle.out_of_memory.specs.declared.OutOfMemory.{OutOfMemory}
use Rattle.event_machine.specs.Rounds.{Rounds}
use Rattle.road_network.specs.Network.{Network}
use Rattle.road_network.specs.Queries.{limit_of}
use Rattle.road_network.specs.declared.query.Query.{Query}
use Rattle.road_network.specs.declared.query.SearchFault.{SearchFault}
use Rattle.road_network.specs.declared.query.SearchFault.TheVariants as fault

-- what is searched for a query
abbrev pub task_of : Network → Query → Task
task_of net query =
    record { network = net; start = query.from; target = query.to; limit = limit_of net.criteria query }

-- The counter rose by the number of counted rounds of the task; where memory ran out, by at most so many.
pub record CountsRounds {Answer : Type 0} (task : Task) (budget : ℕ) (result : Result Answer SearchFault) (old new : ℕ)
    : Type 0 where
  pub rounds : ℕ
  pub all : Rounds task budget rounds
  pub at_most : new ≤ old + rounds
  pub exact : ((want : OutOfMemory) → result ≢ Err (fault.OutOfMemory want)) → new ≡ old + rounds
