use Rattle.waiting_queue.proofs.JoiningLemmas.{marked_push}
use Rattle.waiting_queue.proofs.marking.mark.Goals as goal

pub is_dominated-requires-clause-there : goal.is_dominated-requires-clause-there
is_dominated-requires-clause-there g c = rw (← c.item-item.is) at (c.requires.among c.loop-item.item-index c.item-item.result c.loop-item-test.true)

pub loop-item-preserved : goal.loop-item-preserved
loop-item-preserved g c = rw c.in_ok-push.ensures.items
    (marked_push g.C.StoredCost.components c.args.items.now c.loop-item-test.true c.item-item.is c.loop-item.invariant c.is_dominated.ensures)
