use Rattle.cert_writer.specs.Labels.{ListsUpTo}
use Rattle.cert_writer.proofs.label_list.settled_labels.Given as goal

-- the labels of the nodes so far stand there
abbrev pub invariant-loop-lesser : goal.invariant-loop-lesser
invariant-loop-lesser g l = ListsUpTo l.network (g.F.FoundCosts.state l.found) l.lesser l.labels.items
