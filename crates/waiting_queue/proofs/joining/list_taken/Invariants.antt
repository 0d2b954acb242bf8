use Rattle.std.proofs.Common.{◌≡◌, take}
use Rattle.waiting_queue.specs.Joining.{taken_of}
use Rattle.waiting_queue.proofs.joining.list_taken.Given as goal

abbrev pub invariant-loop-part : goal.invariant-loop-part
invariant-loop-part g l = l.all.items ≡ taken_of (take l.part-index l.parts)
