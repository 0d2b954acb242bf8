use Rattle.std.proofs.Common.{take}
use Rattle.waiting_queue.specs.Joining.{JoinsAll}
use Rattle.waiting_queue.proofs.joining.join_marked.Given as goal

abbrev pub invariant-loop-i : goal.invariant-loop-i
invariant-loop-i g l = JoinsAll g.C.StoredCost.components (take l.i l.all) l.taken.items l.back.items
