use Rattle.std.proofs.lemmas.Result.{on_ok_weaker}
use Rattle.std.proofs.lemmas.List.Sorted.{IsPermutation-map}
use Rattle.least_queue.specs.Heaps.{waits}
use Rattle.least_queue.proofs.buckets.BucketQueueLeastQueue.put.Goals as goal

pub returns : goal.returns
returns g c = on_ok_weaker c.put_entry.result (IsPermutation-map (waits g.C.StoredCost.components) _ _) c.put_entry.ensures.put
