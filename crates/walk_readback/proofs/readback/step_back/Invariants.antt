use Rattle.walk_readback.specs.GoingBack.{GoesBack}
use Rattle.walk_readback.proofs.GoingBackLaws.{StandBehind}
use Rattle.walk_readback.proofs.readback.step_back.Given as goal

-- no arc so far goes back
abbrev pub invariant-loop-arc : goal.invariant-loop-arc
invariant-loop-arc g l = StandBehind (GoesBack l.network (g.F.FoundCosts.state l.found) l.fn.node.0 l.cost) l.arcs l.arc-index
