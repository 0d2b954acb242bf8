use Rattle.std.proofs.Common.{◌≡◌, ◌++◌, map, take}
use Rattle.settled_front.proofs.latest.list_first.Given as goal

abbrev pub invariant-loop-lane : goal.invariant-loop-lane
invariant-loop-lane g l =
    map (λ c. c.0) l.list.items ≡ map (λ c. c.0) l.fn.list.items ++ take l.lane (g.B.CostBlock.costs l.block)
