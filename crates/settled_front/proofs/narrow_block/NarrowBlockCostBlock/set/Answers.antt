use Rattle.std.proofs.Common.{[], arith}
use Rattle.settled_front.proofs.BlockLanes.{lane_written}
use Rattle.settled_front.proofs.narrow_block.NarrowBlockCostBlock.set.Goals as goal

pub returns : goal.returns
returns g c =
    let rows = c.self.inside.rows in
    rw (← c.self.view_is) (lane_written g.row.D rows c.loop-k.self-inside.rows c.args.lane c.args.cost.now c.requires c.to_compact.ensures.long
    (λ k low. c.self.invariant.full k [] (omega (arith, low, c.self.invariant.long))) (λ k low. c.loop-k.invariant.written k (omega arith)))
