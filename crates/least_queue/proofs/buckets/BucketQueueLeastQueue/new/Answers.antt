use Rattle.least_queue.proofs.RingLemmas.{empty_items}
use Rattle.least_queue.proofs.buckets.BucketQueueLeastQueue.new.Goals as goal

pub returns : goal.returns
returns g c = rw (c.new.ensures.items, c.new-2.ensures.items, c.in_ok-new.ensures, c.new-4.ensures.items, empty_items)
