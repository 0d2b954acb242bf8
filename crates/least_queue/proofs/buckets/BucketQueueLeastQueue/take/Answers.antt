use Rattle.std.proofs.Common.{◌++◌, map, All, arith}
use Rattle.std.proofs.lemmas.List.Sorted.{IsPermutation-map}
use Rattle.waiting_item.specs.Waiting.{Waiting}
use Rattle.least_queue.specs.Buckets.{all_of}
use Rattle.least_queue.specs.Heaps.{waits}
use Rattle.least_queue.proofs.LosesLemmas.{all_of_images, loses_keeps, loses_order, loses_twice}
use Rattle.least_queue.proofs.buckets.BucketQueueLeastQueue.take.Goals as goal

pub open-reached-requires : goal.open-reached-requires
open-reached-requires g c =
    let f = waits g.C.StoredCost.components in
    let P : Waiting → Type 0 = λ w. g.K.Look.allows c.args.look.now w.spot in
    let old = all_of_images P f (all_of c.buckets.self) (loses_keeps _ P _ _ c.buckets.invariant c.requires) in
    let allowed : All (λ e. P (f e)) (all_of c.take_opened.new.self) = rw c.in_default.ensures.same old in
    (omega arith, (allowed, (c.in_default.ensures.none, c.in-Some-next_number.ensures.next)))

pub buckets-preserved : goal.buckets-preserved
buckets-preserved g c =
    let f = waits g.C.StoredCost.components in
    let spent_now = g.K.Look.IsSpent c.args.look.now in
    let loses = rw c.in_default.ensures.same at c.open-reached.ensures.loses in
    let again = c.open-reached.result.items ++ all_of c.open-reached.new.self in
    loses_twice spent_now (map f (all_of c.args.self.now)) (map f (all_of c.buckets.self)) (map f (all_of c.put_all.new.self)) c.buckets.invariant
    (loses_twice spent_now (map f (all_of c.buckets.self)) (map f again) (map f (all_of c.put_all.new.self)) loses
    (loses_order spent_now (map f again) (map f (all_of c.put_all.new.self)) (IsPermutation-map f again (all_of c.put_all.new.self) c.in_ok-put_all.ensures.put)))
