use Rattle.std.proofs.Common.{◌≡◌, map, take}
use Rattle.settled_fronts.proofs.fronts.widen_all.Given as goal

abbrev pub invariant-loop-front : goal.invariant-loop-front
invariant-loop-front g l = map g.F.Wide.SettledFront.costs l.wide.items ≡ map g.F.SettledFront.costs (take l.front-index l.fronts)
