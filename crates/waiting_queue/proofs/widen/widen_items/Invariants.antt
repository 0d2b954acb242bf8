use Rattle.std.proofs.Common.{◌≡◌, map, take}
use Rattle.waiting_item.specs.Waiting.{as_waiting}
use Rattle.waiting_queue.proofs.widen.widen_items.Given as goal

abbrev pub invariant-loop-item : goal.invariant-loop-item
invariant-loop-item g l =
    map (as_waiting g.W.StoredCost.components) l.wide.items ≡ map (as_waiting g.C.StoredCost.components) (take l.item-index l.items)
