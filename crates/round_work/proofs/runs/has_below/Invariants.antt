use Rattle.std.specs.List.{AllWithin}
use Rattle.cost_vector.specs.Costs.{AtMost}
use Rattle.waiting_item.specs.declared.item.Item.{Item}
use Rattle.round_work.proofs.runs.has_below.Given as goal

abbrev pub invariant-loop-other : goal.invariant-loop-other
invariant-loop-other g l =
    AllWithin (λ (k : Item g.row.C.Denot). ¬ AtMost (g.C.StoredCost.components k.cost) (g.C.StoredCost.components l.item.cost)) l.items 0 l.other-index
