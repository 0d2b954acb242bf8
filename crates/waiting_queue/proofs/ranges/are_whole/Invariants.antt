use Rattle.std.proofs.Common.{◌≡◌, None}
use Rattle.std.specs.List.{AllWithin}
use Rattle.waiting_queue.specs.declared.joining.Part.{Part}
use Rattle.waiting_queue.proofs.ranges.are_whole.Given as goal

abbrev pub invariant-loop-part : goal.invariant-loop-part
invariant-loop-part g l = AllWithin (λ (p : Part g.row.C.Denot). p.want ≡ None) l.parts 0 l.part-index
