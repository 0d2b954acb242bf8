use Rattle.std.proofs.lemmas.Bool.{iff_false}
use Rattle.waiting_queue.proofs.ShadowLemmas.{without_none}
use Rattle.waiting_queue.proofs.shadow.uncover.Goals as goal

pub returns-else-is_below_any-clause-without : goal.returns-else-is_below_any-clause-without
returns-else-is_below_any-clause-without g c =
    without_none g.C.StoredCost.components c.args.shadow.now.items (g.C.StoredCost.components c.args.low.now) c.count_up_to-near.result
    (rw c.deref.ensures.value at c.count_up_to-near.ensures) (iff_false (rw c.deref-2.ensures.value at c.is_below_any.ensures) c.if-is_below_any.false)
