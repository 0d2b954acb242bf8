use Rattle.std.proofs.Common.{arith}
use Rattle.settled_front.proofs.Covers.{covered_append}
use Rattle.settled_front.proofs.blocks.BlockFrontSettledFront.covers.Goals as goal

pub returns-then-covers : goal.returns-then-covers
returns-then-covers g c =
    let either = covered_append c.self.inside.blocks c.self.inside.latest (g.B.Cost.StoredCost.components c.args.cost.now) in
    rw (← c.self.view_is) (grind arith)

pub returns-else-covers : goal.returns-else-covers
returns-else-covers g c =
    let either = covered_append c.self.inside.blocks c.self.inside.latest (g.B.Cost.StoredCost.components c.args.cost.now) in
    rw (← c.self.view_is) (grind arith)
