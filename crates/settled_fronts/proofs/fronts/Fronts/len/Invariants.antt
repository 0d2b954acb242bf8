use Rattle.std.specs.Prelude.{◌≡◌, ◌-◌, ◌^◌, length, map, min, take}
use Rattle.std.specs.List.{sum_by}
use Rattle.settled_fronts.proofs.fronts.Fronts.len.Given as goal

abbrev pub invariant-loop-front : goal.invariant-loop-front
invariant-loop-front g l = l.count ≡ min (sum_by length (map g.F.SettledFront.costs (take l.front-index l.front-items))) (2 ^ 64 - 1)
