use Rattle.std.proofs.Common.{arith}
use Rattle.node_lists.proofs.LoweredLemmas.{lowered_whole, still_there}
use Rattle.node_lists.proofs.lowered.lower_all.Goals as goal

pub lowered-requires-clause-at_most : goal.lowered-requires-clause-at_most
lowered-requires-clause-at_most g c =
    still_there g.C.StoredCost.components c.args.by.now c.args.costs.now c.loop-cost.costs c.loop-cost.cost-index c.cost-item.result
    c.loop-cost.invariant c.loop-cost-test.true c.requires.at_most

pub returns : goal.returns
returns g c =
    lowered_whole g.C.StoredCost.components c.args.by.now c.args.costs.now c.loop-cost.costs c.loop-cost.cost-index c.loop-cost.invariant
    (omega (arith, c.loop-cost-test.false, c.loop-cost.invariant.as_long))
