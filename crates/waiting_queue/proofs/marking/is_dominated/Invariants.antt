use Rattle.std.proofs.Common.{take}
use Rattle.waiting_queue.specs.Joining.{taken_of}
use Rattle.waiting_queue.specs.Taking.{IsDominatedIn}
use Rattle.waiting_item.specs.Waiting.{spot_in}
use Rattle.waiting_queue.proofs.marking.is_dominated.Given as goal

-- nothing of the parts so far dominates the item
abbrev pub invariant-loop-part : goal.invariant-loop-part
invariant-loop-part g l =
    ¬ IsDominatedIn (spot_in g.C.StoredCost.components) (taken_of (take l.part-index l.parts)) (g.C.StoredCost.components l.item.cost)
