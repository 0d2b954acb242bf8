use Rattle.std.proofs.Common.{map, take}
use Rattle.waiting_queue.specs.Joining.{AreMarked, joined}
use Rattle.waiting_queue.proofs.marking.mark_all.Given as goal

abbrev pub invariant-loop-list : goal.invariant-loop-list
invariant-loop-list g l = AreMarked g.C.StoredCost.components l.all (joined (take l.list-index (map (λ p. p.now) l.pieces.items))) l.marks.items
