use Rattle.std.proofs.Common.{map, arith}
use Rattle.std.proofs.lemmas.List.{map_push}
use Rattle.settled_list.proofs.RestLists.{covered_by_rests, rests_put}
use Rattle.settled_list.proofs.SettledLists.{settled_push}
use Rattle.settled_list.proofs.three.StairListSettledList3.push.Goals as goal

pub put-requires : goal.put-requires
put-requires g c =
    let f = g.C.StoredCost.components in
    let rest = c.rest_of.ensures in
    let decides = covered_by_rests (map f c.self.inside.costs.items) c.self.inside.stair c.self.invariant.1 (f c.args.cost.now)
    (omega (arith, rest.long)) (rw (← c.self.view_is) at c.requires.behind) in
    record { fits = rest.fits; uncovered = λ h. (rw (← c.self.view_is) at c.requires.uncovered) (decides.1 (rw rest.rest at h)) }

pub invariant_of-self-2 : goal.invariant_of-self-2
invariant_of-self-2 g c =
    let f = g.C.StoredCost.components in
    let costs = map f c.self.inside.costs.items in
    let cost = f c.args.cost.now in
    let rest = c.rest_of.ensures in
    let behind = rw (← c.self.view_is) at c.requires.behind in
    rw (c.push_reserved.ensures.items, c.reserve.ensures.items, map_push f c.self.inside.costs.items c.args.cost.now) (
      settled_push costs cost c.self.invariant.0 behind (rw (← c.self.view_is) at c.requires.uncovered),
      rests_put costs c.self.inside.stair c.self.invariant.1 cost (omega (arith, rest.long)) behind c.put.new.self
          (rw rest.rest at c.in_ok-put.ensures.put),
    )
