use Rattle.std.proofs.Common.{◌≡◌, [], replicate}
use Rattle.least_queue.proofs.ring.Ring.new.Given as goal

abbrev pub invariant-loop : goal.invariant-loop
invariant-loop g l = l.buckets.items ≡ replicate l.counter (0, [])
