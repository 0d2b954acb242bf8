use Rattle.std.proofs.Common.{◌-◌, length}
use Rattle.waiting_item.specs.Waiting.{spot_in}
use Rattle.waiting_queue.proofs.OrderLemmas.{AreBefore}
use Rattle.waiting_queue.proofs.order.count_before.Given as goal

abbrev pub invariant-loop-count : goal.invariant-loop-count
invariant-loop-count g l = AreBefore g.C.StoredCost.components l.items (spot_in g.C.StoredCost.components l.item) l.count

abbrev pub decreases-loop-count : goal.decreases-loop-count
decreases-loop-count g l = length l.items - l.count

abbrev pub invariant-loop-count-2 : goal.invariant-loop-count-2
invariant-loop-count-2 g l = AreBefore g.C.StoredCost.components l.items (spot_in g.C.StoredCost.components l.item) l.count

abbrev pub decreases-loop-count-2 : goal.decreases-loop-count-2
decreases-loop-count-2 g l = length l.items - l.count
