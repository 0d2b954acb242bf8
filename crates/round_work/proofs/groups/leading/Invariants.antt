use Rattle.std.specs.Prelude.{◌≡◌}
use Rattle.std.specs.List.{AllWithin}
use Rattle.waiting_item.specs.declared.item.Item.{Item}
use Rattle.round_work.proofs.groups.leading.Given as goal

abbrev pub invariant-loop-i : goal.invariant-loop-i
invariant-loop-i g l = AllWithin (λ (m : Item g.row.C.Denot). m.node.0 ≡ l.node.0) l.candidates 0 l.i
