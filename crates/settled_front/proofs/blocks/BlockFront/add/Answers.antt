use Rattle.std.proofs.Common.{◌++◌, ◌∷◌, length, ap, arith}
use Rattle.std.proofs.lemmas.List.{length_push}
use Rattle.std.proofs.lemmas.List.Sorted.{length_permutation}
use Rattle.settled_front.proofs.Listing.{comes_late, once_more}
use Rattle.settled_front.proofs.blocks.BlockFront.add.Goals as goal

pub invariant_of-self-2 : goal.invariant_of-self-2
invariant_of-self-2 g c =
    let cost = g.B.Cost.StoredCost.components c.args.cost.now in
    let before = c.self.inside.blocks ++ c.self.inside.latest in
    let latest = c.make_room.new.latest in
    let late = c.push.new.self in
    let after = c.order_last.new.self in
    let moved = comes_late before c.make_room.new.blocks latest late after cost c.push.ensures c.make_room.ensures.same c.order_last.ensures in
    record {
      few = omega (arith, ap length c.push.ensures, length_push latest cost, c.in_ok-make_room.ensures.room);
      counted = omega (arith, length_permutation (cost ∷ before) (after ++ late) moved, c.self.invariant.counted, c.saturating_add-self-inside.ensures);
      once = once_more before (after ++ late) cost (rw (← c.self.view_is) at c.requires) moved c.self.invariant.once;
    }

pub returns-clause-added : goal.returns-clause-added
returns-clause-added g c =
    rw (← c.self.view_is) (comes_late (c.self.inside.blocks ++ c.self.inside.latest) c.make_room.new.blocks c.make_room.new.latest c.push.new.self
    c.order_last.new.self (g.B.Cost.StoredCost.components c.args.cost.now) c.push.ensures c.make_room.ensures.same c.order_last.ensures)
