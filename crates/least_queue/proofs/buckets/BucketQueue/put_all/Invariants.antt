use Rattle.std.proofs.Common.{◌≡◌, ◌++◌, length, IsPermutation}
use Rattle.least_queue.specs.Buckets.{all_of}
use Rattle.least_queue.proofs.buckets.BucketQueue.put_all.Given as goal

abbrev pub invariant-loop-entry : goal.invariant-loop-entry
invariant-loop-entry g l = IsPermutation (l.fn.entries.items ++ all_of l.fn.self) (l.entries.items ++ all_of l.self) × (l.self.current ≡ l.fn.self.current)

abbrev pub decreases-loop-entry : goal.decreases-loop-entry
decreases-loop-entry g l = length l.entries.items
