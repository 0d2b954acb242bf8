use Rattle.std.proofs.Common.{◌-◌, length}
use Rattle.std.specs.Prelude.{Contains}
use Rattle.waiting_queue.proofs.ShadowLemmas.{IsShadowed}
use Rattle.waiting_queue.proofs.shadow.count_shadowed.Given as goal

abbrev pub invariant-loop-item : goal.invariant-loop-item
invariant-loop-item g l = Contains l.shadow l.last × IsShadowed g.C.StoredCost.components l.shadow l.items l.count

abbrev pub decreases-loop-item : goal.decreases-loop-item
decreases-loop-item g l = length l.items - l.count
