use Rattle.event_machine.proofs.RoundLaws.{passes_where_more, within_where_none_stays}
use Rattle.event_machine.proofs.rounds.rounds_tell_the_budget.Goals as goal

pub returns : goal.returns
returns c = search (passes_where_more, within_where_none_stays)
