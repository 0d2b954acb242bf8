use Rattle.waiting_queue.proofs.OrderLemmas.{sorted_from_cmp}
use Rattle.waiting_queue.proofs.order.sort_items.Goals as goal

pub returns-clause-sorted : goal.returns-clause-sorted
returns-clause-sorted g c = sorted_from_cmp g.C.StoredCost.components g.C.Ord.cmp g.met.C.StoredCost.orders _ c.sort_unstable.ensures.sorted
