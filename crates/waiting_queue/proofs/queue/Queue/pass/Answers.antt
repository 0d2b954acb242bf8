use Rattle.waiting_item.specs.Waiting.{spot_of, as_waiting}
use Rattle.waiting_queue.proofs.TakingLemmas.{spots_let_in}
use Rattle.waiting_queue.proofs.queue.Queue.pass.Goals as goal

pub returns-clause-taken : goal.returns-clause-taken
returns-clause-taken g c =
    let takes = rw (c.deref.ensures.value, c.deref-2.ensures.value) at c.in_ok-pass_lists.ensures.taken in
    rw (c.swap.ensures.x_after, c.swap-2.ensures.x_after, ← c.self.view_is)
    (spots_let_in spot_of (as_waiting g.C.StoredCost.components) (g.K.Look.IsOpen c.args.look.now) c.self.inside.items.items c.self.inside.late.items
    c.args.fresh.now c.pass_lists.new.taken.items _ takes)
