use Rattle.std.proofs.Common.{◌≡◌, ◌++◌, take}
use Rattle.waiting_queue.specs.Joining.{rest_of}
use Rattle.waiting_queue.proofs.joining.list_rests.Given as goal

abbrev pub invariant-loop-part : goal.invariant-loop-part
invariant-loop-part g l = l.rest.items ≡ l.initial.rest.items ++ rest_of (take l.part-index l.part-items)
