use Rattle.std.proofs.Common.{◌≡◌, arith}
use Rattle.settled_front.proofs.BlockLanes.{unexceeded}
use Rattle.settled_front.proofs.narrow_block.NarrowBlock.lanes.Goals as goal

pub returns-clause-at_most : goal.returns-clause-at_most
returns-clause-at_most g c = λ lane within.
    let rows = c.self.inside.rows in
    let at_end : c.loop-k.k ≡ g.row.D = omega (arith, c.self.invariant.long) in
    let marked = rw at_end at (c.loop-k.invariant lane within) in
    let lanes = c.unmarked_lanes.ensures lane within in
    let below = unexceeded g.row.D rows c.args.cost.now c.to_compact.ensures.long lane within in
    rw (← c.self.view_is) (grind arith)
