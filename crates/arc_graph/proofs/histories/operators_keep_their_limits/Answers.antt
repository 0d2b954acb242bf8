use Rattle.arc_graph.proofs.OperatorLemmas.{operator_published, operator_closed}
use Rattle.arc_graph.proofs.histories.operators_keep_their_limits.Goals as goal

pub returns-clause-published : goal.returns-clause-published
returns-clause-published c = operator_published

pub returns-clause-closed : goal.returns-clause-closed
returns-clause-closed c = operator_closed
