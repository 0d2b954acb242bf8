use Rattle.std.proofs.Common.{map, arith}
use Rattle.settled_list.proofs.RestLists.{covered_by_rests}
use Rattle.settled_list.proofs.three.StairListSettledList3.covers.Goals as goal

pub returns : goal.returns
returns g c =
    let cost = g.C.StoredCost.components c.args.cost.now in
    let rest = c.rest_of.ensures in
    let list = c.self.inside.costs.items in
    let decides = covered_by_rests (map g.C.StoredCost.components list) c.self.inside.stair c.self.invariant.1 cost (omega (arith, rest.long))
    (rw (← c.self.view_is) at c.requires.behind) in
    let tells = rw rest.rest at c.covers.ensures in
    rw (← c.self.view_is) (λ h. decides.1 (tells.0 h), λ h. tells.1 (decides.0 h))
