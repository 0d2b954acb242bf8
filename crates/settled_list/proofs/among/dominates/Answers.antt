use Rattle.settled_list.proofs.Dominated.{dominates_but_last}
use Rattle.settled_list.proofs.among.dominates.Goals as goal

pub returns-then-covers : goal.returns-then-covers
returns-then-covers g c =
    let order = g.met.L.Cost.Ord in
    rw (c.ne.ensures, ← c.as_slice.ensures.same)
    (dominates_but_last g.L.Cost.StoredCost.components g.L.Cost.Ord.cmp order.total g.met.L.Cost.StoredCost.orders
    g.L.Cost.PartialEq.eq order.matches_eq c.as_slice.result.now (rw (← c.as_slice.ensures.same) at c.as_slice.ensures.settled) c.args.cost
    (rw (← c.as_slice.ensures.same) at c.requires.behind) c.last.result c.last.ensures.value
    (rw (← c.as_slice.ensures.same) at (c.covers.ensures.0 c.if-covers.true)))
