use Rattle.std.specs.BinaryHeap.{heap_items}
use Rattle.least_queue.proofs.BucketLemmas.{opened_less}
use Rattle.least_queue.proofs.TakenLemmas.{takes_least}
use Rattle.least_queue.proofs.buckets.BucketQueue.take_opened.Goals as goal

pub invariant_of-self-2 : goal.invariant_of-self-2
invariant_of-self-2 g c =
    (opened_less c.self.invariant c.in-Some.field-0 c.take_greatest.new.run.items (heap_items c.take_greatest.new.heap)
    c.in-Some.ensures.sorted c.in-Some.ensures.heap c.in-Some.ensures.rest).1

pub returns-clause-least : goal.returns-clause-least
returns-clause-least g c =
    let run = c.take_greatest.new.run.items in
    let heap = heap_items c.take_greatest.new.heap in
    let x = c.in-Some.field-0 in
    let early = (opened_less c.self.invariant x run heap c.in-Some.ensures.sorted c.in-Some.ensures.heap c.in-Some.ensures.rest).0 in
    rw (← c.self.view_is)
    (takes_least g.C.StoredCost.components g.C.Ord.cmp g.met.C.StoredCost.orders c.self.invariant x run heap c.in-Some.ensures.greatest c.in-Some.ensures.rest early)
