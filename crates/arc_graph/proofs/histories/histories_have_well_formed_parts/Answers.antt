use Rattle.arc_graph.proofs.OperatorLemmas.{history_front, published_front}
use Rattle.arc_graph.proofs.histories.histories_have_well_formed_parts.Goals as goal

pub returns-clause-history : goal.returns-clause-history
returns-clause-history c = history_front

pub returns-clause-published : goal.returns-clause-published
returns-clause-published c = published_front
