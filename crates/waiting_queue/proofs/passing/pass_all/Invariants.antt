use Rattle.std.proofs.Common.{List, length}
use Rattle.waiting_item.specs.declared.item.Item.{Item}
use Rattle.waiting_queue.specs.Passing.{PassesNext}
use Rattle.waiting_queue.specs.Shadows.{Descends}
use Rattle.waiting_queue.proofs.passing.pass_all.Given as goal

abbrev pub invariant-loop-item : goal.invariant-loop-item
invariant-loop-item g l = record {
  descends : Descends g.C.StoredCost.components l.shadow.items;
  passed : (costs : List g.row.C.Denot) (took left : List (Item g.row.C.Denot))
      → PassesNext g.C.StoredCost.components (g.K.Look.IsOpen l.look) l.left l.shadow.items l.taken.items l.rest.items costs took left
      → PassesNext g.C.StoredCost.components (g.K.Look.IsOpen l.look) l.items l.fn.shadow.items l.fn.taken.items l.fn.rest.items costs took left;
}

abbrev pub decreases-loop-item : goal.decreases-loop-item
decreases-loop-item g l = length l.left
