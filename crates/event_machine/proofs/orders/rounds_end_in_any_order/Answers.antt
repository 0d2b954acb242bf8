use Rattle.event_machine.specs.Machine.{Task, SearchState, IsTask}
use Rattle.event_machine.specs.Events.{IsReached}
use Rattle.event_machine.proofs.Keeping.{sound_if_reached}
use Rattle.event_machine.proofs.CompletesLaws.{one_outcome, completes_to_outcome, some_outcome, arrivals_when_relaxed, finishes_is_outcome}
use Rattle.event_machine.proofs.orders.rounds_end_in_any_order.Goals as goal

pub returns : goal.returns
returns c =
    let some = λ (task : Task) (s : SearchState) (is : IsTask task) (h : IsReached task s). some_outcome task is s (sound_if_reached task is s h) in
    search (some, sound_if_reached, arrivals_when_relaxed, completes_to_outcome, finishes_is_outcome, one_outcome)
