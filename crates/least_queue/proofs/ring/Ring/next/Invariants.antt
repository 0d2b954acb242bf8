use Rattle.std.proofs.Common.{ℕ, ◌<◌, ◌≤◌}
use Rattle.least_queue.specs.Rings.{HasBucket}
use Rattle.least_queue.proofs.ring.Ring.next.Given as goal

abbrev pub invariant-loop-number : goal.invariant-loop-number
invariant-loop-number g l = (n : ℕ) → l.from ≤ n → n < l.number → ¬ HasBucket l.self n
