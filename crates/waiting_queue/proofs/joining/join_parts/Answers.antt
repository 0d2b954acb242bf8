use Rattle.waiting_queue.proofs.JoiningLemmas.{taken_sorted}
use Rattle.waiting_queue.proofs.joining.join_parts.Goals as goal

pub join_marked-requires-clause-sorted : goal.join_marked-requires-clause-sorted
join_marked-requires-clause-sorted g c = rw (c.deref-2.ensures.value, c.in_ok-list_taken.ensures)
    (taken_sorted g.C.StoredCost.components c.args.parts.now c.requires.parts)
