use Rattle.std.proofs.Common.{◌∙◌}
use Rattle.least_queue.proofs.BucketLemmas.{put_more}
use Rattle.least_queue.proofs.buckets.BucketQueue.put_all.Goals as goal

pub loop-entry-preserved : goal.loop-entry-preserved
loop-entry-preserved g c = (
  put_more _ _ _ _ _ _ c.in-Some.ensures.items c.loop-entry.invariant.0 c.in_ok-put_entry.ensures.put,
  c.in_ok-put_entry.ensures.current ∙ c.loop-entry.invariant.1,
)
