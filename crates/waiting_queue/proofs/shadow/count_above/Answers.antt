use Rattle.std.proofs.Common.{arith}
use Rattle.waiting_queue.specs.Shadows.{FallsTo}
use Rattle.waiting_queue.proofs.OrderLemmas.{left_halved}
use Rattle.waiting_queue.proofs.shadow.count_above.Goals as goal

pub loop-size-preserved : goal.loop-size-preserved
loop-size-preserved g c =
    left_halved c.loop-size.invariant (FallsTo g.C.StoredCost.components) c.requires.descends (λ x y falls. (omega arith, omega arith)) c.loop-size-test.true
    _ c.index-shadow-start.is _ (rw (c.part-bound.ensures.value, c.part.ensures.value) at c.less_bit.ensures)
