use Rattle.event_machine.proofs.Keeping.{end_has_all}
use Rattle.event_machine.proofs.finality.the_end_has_all_relevant_pairs.Goals as goal

pub returns : goal.returns
returns c = λ task s v cost is reached waiting candidates unrelaxed. end_has_all task is s reached waiting candidates unrelaxed v cost
