use Rattle.std.proofs.Common.{◌≡◌, ◌++◌, map, take}
use Rattle.settled_front.specs.Corners.{in_blocks}
use Rattle.settled_front.proofs.cornered.CorneredBlocks.list.Given as goal

abbrev pub invariant-loop-block : goal.invariant-loop-block
invariant-loop-block g l =
    map (λ c. c.0) l.list.items ≡ map (λ c. c.0) l.fn.list.items ++ in_blocks (map g.B.CostBlock.costs (take l.block-index l.block-items))
