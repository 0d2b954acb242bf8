use Rattle.node_lists.proofs.LoweredLemmas.{AreLoweredTo}
use Rattle.node_lists.proofs.lowered.lower_all.Given as goal

abbrev pub invariant-loop-cost : goal.invariant-loop-cost
invariant-loop-cost g l = AreLoweredTo g.C.StoredCost.components l.by l.initial.costs l.costs l.cost-index
