use Rattle.std.proofs.Common.{◌-◌, ◌≤◌, length}
use Rattle.waiting_queue.proofs.ranges.have_parts.Given as goal

abbrev pub invariant-loop-alloc : goal.invariant-loop-alloc
invariant-loop-alloc g l = length l.parts.items ≤ l.count

abbrev pub decreases-loop-alloc : goal.decreases-loop-alloc
decreases-loop-alloc g l = l.count - length l.parts.items
