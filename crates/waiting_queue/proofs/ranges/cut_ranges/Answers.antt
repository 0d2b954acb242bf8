use Rattle.std.proofs.Common.{sym}
use Rattle.waiting_queue.proofs.RangeLemmas.{cutting_all, cutting_more, cutting_none}
use Rattle.waiting_queue.proofs.ranges.cut_ranges.Goals as goal

pub loop-init : goal.loop-init
loop-init g c = rw c.new-ranges.ensures.items (cutting_none g.C.StoredCost.components c.args.items.now c.requires.sorted)

pub loop-preserved : goal.loop-preserved
loop-preserved g c = rw (c.in_ok-push.ensures.items, c.split_at.ensures.back)
    (cutting_more g.C.StoredCost.components c.loop.invariant c.min.result c.in-Some.until (rw c.split_at.ensures.back at (sym c.in-Some.ensures.value))
    c.split_at.result.0 c.split_at.ensures.front)

pub returns : goal.returns
returns g c = rw c.in_ok-push-2.ensures.items (cutting_all g.C.StoredCost.components c.loop.items c.loop.invariant)
