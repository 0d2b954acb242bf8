use Rattle.std.proofs.Common.{map, arith}
use Rattle.settled_list.proofs.RestLists.{covered_by_rests}
use Rattle.block_list.proofs.list.BlockListSettledList4.covers.Goals as goal

pub returns : goal.returns
returns g c =
    let f = g.F.Whole.StoredCost.components in
    let cost = f c.args.cost.now in
    let behind = rw (← c.self.view_is) at c.requires.behind in
    let rests_tell = covered_by_rests (map f c.self.inside.costs.items) (g.F.RestFront.rests c.self.inside.rests) c.self.invariant.1 cost
    (omega (arith, c.covers_rest.ensures.long)) behind in
    rw (← c.self.view_is) (λ h. rests_tell.1 (c.covers_rest.ensures.exact.0 h), λ h. c.covers_rest.ensures.exact.1 (rests_tell.0 h))
