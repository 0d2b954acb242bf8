use Rattle.std.proofs.Common.{map}
use Rattle.settled_front.proofs.Covers.{LanesLeft}
use Rattle.settled_front.proofs.cornered.some_cover.Given as goal

abbrev pub invariant-lanes : goal.invariant-lanes
invariant-lanes g l = LanesLeft (map g.B.CostBlock.costs l.blocks) (g.B.Cost.StoredCost.components l.cost) l.fn.lanes l.rest

abbrev pub decreases-lanes : goal.decreases-lanes
decreases-lanes g l = l.rest
