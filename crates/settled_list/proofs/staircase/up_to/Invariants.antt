use Rattle.std.proofs.Common.{map}
use Rattle.settled_front.specs.Staircase.{IsCut}
use Rattle.settled_list.specs.Stairs.{as_pair}
use Rattle.settled_list.proofs.staircase.up_to.Given as goal

abbrev pub invariant-loop-size : goal.invariant-loop-size
invariant-loop-size g l =
    let value = g.P.Part.value in
    IsCut (map (as_pair value) l.rests) (value l.second) l.end l.size

abbrev pub decreases-loop-size : goal.decreases-loop-size
decreases-loop-size g l = l.size
