use Rattle.std.proofs.Common.{take}
use Rattle.waiting_queue.specs.Joining.{AreMarked, taken_of}
use Rattle.waiting_queue.proofs.marking.mark.Given as goal

abbrev pub invariant-loop-item : goal.invariant-loop-item
invariant-loop-item g l = AreMarked g.C.StoredCost.components (taken_of l.parts) (take l.item-index l.items) l.marks.items
