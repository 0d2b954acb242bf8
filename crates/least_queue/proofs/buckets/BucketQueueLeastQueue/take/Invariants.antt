use Rattle.std.proofs.Common.{◌-◌, ◌^◌, map}
use Rattle.sweep_parts.specs.Leaving.{LosesSpent}
use Rattle.least_queue.specs.Buckets.{all_of}
use Rattle.least_queue.specs.Heaps.{waits}
use Rattle.least_queue.proofs.buckets.BucketQueueLeastQueue.take.Given as goal

abbrev pub invariant-buckets : goal.invariant-buckets
invariant-buckets g l =
    LosesSpent (g.K.Look.IsSpent l.look) (map (waits g.C.StoredCost.components) (all_of l.fn.self)) (map (waits g.C.StoredCost.components) (all_of l.self))

abbrev pub decreases-buckets : goal.decreases-buckets
decreases-buckets g l = 2 ^ 64 - l.self.current
