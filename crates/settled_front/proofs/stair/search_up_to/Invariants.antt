use Rattle.std.proofs.Common.{◌<◌, map}
use Rattle.settled_front.specs.Staircase.{IsCut, first}
use Rattle.settled_front.proofs.stair.search_up_to.Given as goal

abbrev pub invariant-loop-size : goal.invariant-loop-size
invariant-loop-size g l =
    let f = g.C.StoredCost.components in
    (0 < l.size) × IsCut (map f l.costs) (first (f l.cost)) l.end l.size

abbrev pub decreases-loop-size : goal.decreases-loop-size
decreases-loop-size g l = l.size
