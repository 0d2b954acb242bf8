use Rattle.still_commands.proofs.RunsLemmas.{takes_nothing}
use Rattle.still_commands.proofs.end.Goals as goal

pub returns-in-Ok-clause-note : goal.returns-in-Ok-clause-note
returns-in-Ok-clause-note g c = rw c.in-Ok.is (takes_nothing _)
