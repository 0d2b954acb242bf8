use Rattle.least_queue.proofs.OpenedLemmas.{heap_greatest, heap_taken, run_greatest, run_taken}
use Rattle.least_queue.proofs.opened.take_greatest.Goals as goal

pub returns-then-leads-clause-greatest : goal.returns-then-leads-clause-greatest
returns-then-leads-clause-greatest g c =
    run_greatest g.T.Ord.cmp g.met.T.Ord.total _ _ _ c.pop.result c.pop.ensures.items c.requires.sorted (c.leads.ensures.leads c.if-leads.true)

pub returns-then-leads-clause-rest : goal.returns-then-leads-clause-rest
returns-then-leads-clause-rest g c = run_taken _ _ _ c.pop.result c.pop.ensures.items

pub returns-else-leads-clause-greatest : goal.returns-else-leads-clause-greatest
returns-else-leads-clause-greatest g c =
    heap_greatest g.T.Ord.cmp g.met.T.Ord.total _ _ _ c.pop-else-leads.result c.requires.sorted c.requires.heap (c.leads.ensures.behind c.if-leads.false)
    c.pop-else-leads.ensures.top c.pop-else-leads.ensures.heap_order

pub returns-else-leads-clause-rest : goal.returns-else-leads-clause-rest
returns-else-leads-clause-rest g c = heap_taken _ _ _ c.pop-else-leads.result c.pop-else-leads.ensures.permutation
