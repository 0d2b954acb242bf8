use Rattle.std.proofs.Common.{take_all, arith}
use Rattle.waiting_queue.proofs.RangeLemmas.{listed_next}
use Rattle.waiting_queue.proofs.ranges.list_within.Goals.{then-is_within+in_ok-push, else-is_within}
use Rattle.waiting_queue.proofs.ranges.list_within.Goals as goal

pub loop-item-preserved : goal.loop-item-preserved
loop-item-preserved g c =
    let (more, as_before) = listed_next g.C.StoredCost.components c.args.range.now c.args.items.now c.args.list.now.items c.loop-item.list.items
    c.loop-item.item-index c.item-item.result c.loop-item-test.true c.item-item.is c.loop-item.invariant in
    elim c.if-is_within.branch [
      | then-is_within+in_ok-push w ↦ rw (w.list-is, w.in_ok-push.ensures.items) (more (c.is_within.ensures.0 w.if-is_within.true))
      | else-is_within w ↦ rw w.list-is (as_before (λ lies. let yes = c.is_within.ensures.1 lies in grind arith))
    ]

pub returns : goal.returns
returns g c = rw (take_all c.loop-item.item-index c.args.items.now c.loop-item-test.false) at c.loop-item.invariant
