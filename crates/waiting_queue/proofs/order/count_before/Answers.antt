use Rattle.std.proofs.Common.{◌+◌, ◌-◌, arith}
use Rattle.std.proofs.lemmas.Bool.{iff_false}
use Rattle.waiting_queue.proofs.OrderLemmas.{before_until, none_from}
use Rattle.waiting_queue.proofs.order.count_before.Goals as goal

pub loop-count-preserved : goal.loop-count-preserved
loop-count-preserved g c =
    before_until g.C.StoredCost.components c.args.items.now c.requires _ (c.loop-count.count + 16 - 1) _ _
    (omega (arith, c.loop-count-test.true, c.loop-count.invariant.within)) (omega arith) c.index-items-count.is (c.is_before.ensures.0 c.if-is_before.true)

pub loop-count-2-preserved : goal.loop-count-2-preserved
loop-count-2-preserved g c =
    before_until g.C.StoredCost.components c.args.items.now c.requires _ c.loop-count-2.count _ _ c.loop-count-2-test.true (omega arith)
    c.index-items-count-in-loop-count-2.is (c.is_before-in-loop-count-2.ensures.0 c.if-is_before-2.true)

pub returns-else-is_before-2 : goal.returns-else-is_before-2
returns-else-is_before-2 g c =
    let none = none_from g.C.StoredCost.components c.args.items.now c.requires _ c.loop-count-2.count _ c.loop-count-2-test.true
    c.index-items-count-in-loop-count-2.is (iff_false c.is_before-in-loop-count-2.ensures c.if-is_before-2.false) in grind (arith, none)
