use Rattle.std.proofs.Common.{map, ap, ◌∙◌, take_all}
use Rattle.settled_front.proofs.Stairs.{lists_stairs}
use Rattle.settled_front.proofs.stair.StairFrontSettledFront2.to_costs.Goals as goal

pub returns : goal.returns
returns g c =
    let f = g.C.StoredCost.components in
    let all = ap (map f) (take_all c.loop-cost.cost-index c.deref-cost-items.result.now c.loop-cost-test.false ∙ c.deref-cost-items.ensures.value) in
    rw (← c.self.view_is, c.loop-cost.invariant, all) (lists_stairs c.self.invariant.0)
