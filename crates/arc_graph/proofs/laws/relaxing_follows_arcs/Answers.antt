use Rattle.arc_graph.proofs.RelaxLaws.{label_in, label_of}
use Rattle.arc_graph.proofs.laws.relaxing_follows_arcs.Goals as goal

pub returns-clause-each_arc : goal.returns-clause-each_arc
returns-clause-each_arc c = λ net u k v cost by. label_in net u cost k v by

pub returns-clause-no_other : goal.returns-clause-no_other
returns-clause-no_other c = label_of
