use Rattle.std.proofs.Common.{◌≡◌, map, take}
use Rattle.settled_front.specs.Corners.{in_blocks}
use Rattle.settled_front.proofs.cornered.costs_of.Given as goal

abbrev pub invariant-loop-block : goal.invariant-loop-block
invariant-loop-block g l =
    map g.B.Cost.StoredCost.components l.costs.items ≡ in_blocks (map g.B.CostBlock.costs (take l.block-index l.blocks))
