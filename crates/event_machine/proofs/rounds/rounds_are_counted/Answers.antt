use Rattle.std.proofs.Common.{ℕ}
use Rattle.event_machine.specs.Machine.{Task, IsTask}
use Rattle.event_machine.proofs.RoundLaws.{some_number, one_number, bounded, round_after_all, at_most_all, more_to_come}
use Rattle.event_machine.proofs.rounds.rounds_are_counted.Goals as goal

pub returns : goal.returns
returns c =
    let some = λ (task : Task) (budget : ℕ) (is : IsTask task). some_number task is budget in
    let most = λ (task : Task) (budget n : ℕ) (is : IsTask task). bounded task is budget n in
    search (some, most, one_number, round_after_all, at_most_all, more_to_come)
