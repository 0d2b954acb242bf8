use Rattle.waiting_item.specs.Waiting.{SpotLess, Waiting, as_waiting}
use Rattle.waiting_queue.proofs.OrderLemmas.{pairs_as}
use Rattle.waiting_queue.proofs.queue.Queue.widen.Goals as goal

pub invariant_of-result : goal.invariant_of-result
invariant_of-result g c = (
  c.self.invariant.0,
  pairs_as (as_waiting g.C.StoredCost.components) (as_waiting g.W.StoredCost.components) (λ (a b : Waiting). ¬ SpotLess b.spot a.spot)
      c.self.inside.items.items c.in_ok-widen_items.field-0.items (rw c.deref.ensures.value at c.in_ok-widen_items.ensures) c.self.invariant.1,
)
