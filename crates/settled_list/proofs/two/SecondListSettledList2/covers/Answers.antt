use Rattle.std.proofs.Common.{arith}
use Rattle.settled_list.proofs.Seconds.{last_second_decides}
use Rattle.settled_list.proofs.two.SecondListSettledList2.covers.Goals as goal

pub returns : goal.returns
returns g c =
    let cost = g.C.StoredCost.components c.args.cost.now in
    let part = c.part.ensures in
    let decides = last_second_decides c.self.invariant.0 cost part.long (rw (← c.self.view_is) at c.requires.behind)
    g.C.Part.Part.bound (part.fits 1 0 (omega (arith, part.long))) in
    let tells = rw (c.self.invariant.1, part.value) at c.is_at_most.ensures in
    rw (← c.self.view_is) (λ h. decides.1 (tells.0 h), λ h. tells.1 (decides.0 h))
