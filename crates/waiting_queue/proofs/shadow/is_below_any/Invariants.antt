use Rattle.std.proofs.Common.{◌↔◌, take}
use Rattle.std.specs.Prelude.{IsTrue}
use Rattle.waiting_queue.specs.Shadows.{IsBelowSome}
use Rattle.waiting_queue.proofs.shadow.is_below_any.Given as goal

abbrev pub invariant-loop-cost : goal.invariant-loop-cost
invariant-loop-cost g l = IsTrue l.any ↔ IsBelowSome g.C.StoredCost.components (take l.cost-index l.costs) (g.C.StoredCost.components l.low)
