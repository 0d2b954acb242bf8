use Rattle.std.proofs.Common.{map}
use Rattle.std.proofs.lemmas.List.Sorted.{IsPermutation-insert}
use Rattle.settled_front.proofs.Stairs.{stairs_grow}
use Rattle.settled_front.proofs.Views.{map-insert}
use Rattle.settled_front.proofs.stair.StairFrontSettledFront2.push.Goals as goal

pub invariant_of-self-2 : goal.invariant_of-self-2
invariant_of-self-2 g c =
    let f = g.C.StoredCost.components in
    let place = c.up_to-place.result in
    let at = c.up_to-place.ensures in (
      rw (c.in_ok-insert.ensures.items, map-insert f c.self.inside.costs.items place c.args.cost.now) (
          stairs_grow c.self.invariant.0 (f c.args.cost.now) at.long place (rw c.deref.ensures.value at at.cut)
          (rw (← c.self.view_is) at c.requires.uncovered) (rw (← c.self.view_is) at c.requires.spares)),
      (cc, cc),
    )

pub returns-clause-pushed : goal.returns-clause-pushed
returns-clause-pushed g c =
    let f = g.C.StoredCost.components in
    let list = c.self.inside.costs.items in
    rw (← c.self.view_is, c.in_ok-insert.ensures.items, map-insert f list c.up_to-place.result c.args.cost.now)
    (IsPermutation-insert (map f list) c.up_to-place.result (f c.args.cost.now))
