use Rattle.event_machine.specs.Machine.{Task, SearchState, IsTask}
use Rattle.event_machine.proofs.RoundLaws.{some_round, one_end, reached_by_round, between_after, counted, settles}
use Rattle.event_machine.proofs.rounds.rounds_have_one_end.Goals as goal

pub returns : goal.returns
returns c =
    let some = λ (task : Task) (s : SearchState) (is : IsTask task). some_round task is s in
    let settled = λ (task : Task) (s after : SearchState) (is : IsTask task). settles task is s after in
    search (some, settled, one_end, reached_by_round, between_after, counted)
