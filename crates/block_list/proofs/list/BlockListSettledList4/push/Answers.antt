use Rattle.std.proofs.Common.{map, arith}
use Rattle.std.proofs.lemmas.List.{map_push}
use Rattle.settled_list.proofs.RestLists.{covered_by_rests}
use Rattle.block_list.proofs.RestPush.{rests_more}
use Rattle.settled_list.proofs.SettledLists.{settled_push}
use Rattle.block_list.proofs.list.BlockListSettledList4.push.Goals as goal

pub invariant_of-self : goal.invariant_of-self
invariant_of-self g c = rw c.reserve.ensures.items c.self.invariant

pub add_rest-requires : goal.add_rest-requires
add_rest-requires g c =
    let f = g.F.Whole.StoredCost.components in
    let behind = rw (← c.self.view_is) at c.requires.behind in
    let uncovered = rw (← c.self.view_is) at c.requires.uncovered in
    let rests_tell = covered_by_rests (map f c.self.inside.costs.items) (g.F.RestFront.rests c.self.inside.rests) c.self.invariant.1 (f c.args.cost.now)
    (omega (arith, c.part-second.ensures.long)) behind in
    λ h. uncovered (rests_tell.1 h)

pub invariant_of-self-in_err-add_rest : goal.invariant_of-self-in_err-add_rest
invariant_of-self-in_err-add_rest g c = rw (c.in_err-add_rest.ensures.same, c.reserve.ensures.items) c.self.invariant

pub invariant_of-self-2 : goal.invariant_of-self-2
invariant_of-self-2 g c =
    let f = g.F.Whole.StoredCost.components in
    let items = c.self.inside.costs.items in
    let cost = f c.args.cost.now in
    let behind = rw (← c.self.view_is) at c.requires.behind in
    let uncovered = rw (← c.self.view_is) at c.requires.uncovered in
    rw (c.push_reserved.ensures.items, c.reserve.ensures.items, map_push f items c.args.cost.now) (
      settled_push (map f items) cost c.self.invariant.0 behind uncovered,
      rests_more (map f items) (g.F.RestFront.rests c.self.inside.rests) (g.F.RestFront.rests c.add_rest.new.self) cost c.self.invariant.1 (omega (arith, c.part-second.ensures.long))
          c.in_ok-add_rest.ensures.added,
    )
