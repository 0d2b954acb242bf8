-- What is searched for a query, and how many rounds that takes.
use Rattle.std.proofs.Common.{◌≡◌, ℕ, ◌+◌, ◌≤◌, List, Result, Err, ap, ◌∙◌, arith, sum}
use Rattle.std.specs.Result.{IsErrAnd}
use Rattle.std.proofs.lemmas.Result.{err_from_is_err_and}
use Rattle.out_of_memory.specs.declared.OutOfMemory.{OutOfMemory}
use Rattle.road_network.specs.Network.{IsNetwork, Network}
use Rattle.road_network.specs.Queries.{IsQuery, limit_of}
use Rattle.road_network.specs.declared.query.Query.{Query}
use Rattle.road_network.specs.declared.query.SearchFault.{SearchFault}
use Rattle.road_network.specs.declared.query.SearchFault.TheVariants as fault
use Rattle.road_network.specs.Answers.{IsRelevant}
use Rattle.event_machine.specs.Machine.{Task, IsTask}
use Rattle.event_machine.specs.Rounds.{Rounds}
use Rattle.event_machine.proofs.RoundLaws.{bounded, some_number}
use Rattle.bulk_search.specs.Counting.{CountsRounds, task_of}

-- a query that can be asked has a task
pub task_is : (net : Network) (query : Query) → IsNetwork net → IsQuery net query → IsTask (task_of net query)
task_is net query is asked =
    record { network = is; start = asked.from; target = asked.to; limit = asked.limit }

-- so many steps are few
pub few_by_rounds : {Answer : Type 0} (net : Network) (query : Query) (result : Result Answer SearchFault) (old new : ℕ) → IsNetwork net → IsQuery net query
    → CountsRounds (task_of net query) query.budget result old new
    → (v : ℕ) × (c : List ℕ) × IsRelevant net query.from query.to (limit_of net.criteria query) v c × (new ≤ old + (sum c + 1))
few_by_rounds net query result old new is asked counts =
    let (v, c, relevant, most) = bounded (task_of net query) (task_is net query is asked) query.budget counts.rounds counts.all in
    (v, c, relevant, omega (arith, most, counts.at_most))

-- where memory ran out, no more rounds were counted than there are
pub counts_out : {Answer : Type 0} (task : Task) (budget : ℕ) (result : Result Answer SearchFault) (old new : ℕ) → IsTask task
    → {want : OutOfMemory} → IsErrAnd result (λ e. e ≡ fault.OutOfMemory want) → ((n : ℕ) → Rounds task budget n → new ≤ old + n) → CountsRounds task budget result old new
counts_out task budget result old new is {want} out most =
    let (n, all) = some_number task is budget in
    let (e, is_err, same) = err_from_is_err_and result out in
    record { rounds = n; all = all; at_most = most n all; exact = λ not. absurd (not want (is_err ∙ ap (λ f. Err f) same)) }
