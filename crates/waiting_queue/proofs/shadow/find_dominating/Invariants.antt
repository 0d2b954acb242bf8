use Rattle.std.proofs.Common.{take}
use Rattle.waiting_queue.specs.Shadows.{IsDominatedBy}
use Rattle.waiting_queue.proofs.shadow.find_dominating.Given as goal

abbrev pub invariant-loop-other : goal.invariant-loop-other
invariant-loop-other g l = ¬ IsDominatedBy g.C.StoredCost.components (take l.other-index l.by) (g.C.StoredCost.components l.cost)
