use Rattle.std.proofs.Common.{take}
use Rattle.waiting_queue.specs.Ranges.{ListsWithin}
use Rattle.waiting_queue.proofs.ranges.list_within.Given as goal

abbrev pub invariant-loop-item : goal.invariant-loop-item
invariant-loop-item g l = ListsWithin g.C.StoredCost.components l.range (take l.item-index l.items) l.fn.list.items l.list.items
