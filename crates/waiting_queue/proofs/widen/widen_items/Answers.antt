use Rattle.std.proofs.lemmas.List.{take_all}
use Rattle.waiting_queue.proofs.widen.widen_items.Goals as goal

pub returns : goal.returns
returns g c = let past = c.loop-item-test.false in rw take_all at c.loop-item.invariant
