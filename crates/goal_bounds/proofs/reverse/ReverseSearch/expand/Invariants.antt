use Rattle.goal_bounds.specs.Reverse.{GoesBack}
use Rattle.goal_bounds.proofs.GoingLemmas.{IsAmong}
use Rattle.goal_bounds.proofs.reverse.ReverseSearch.expand.Given as goal

-- it has gone back along the arcs so far
abbrev pub invariant-loop-arc : goal.invariant-loop-arc
invariant-loop-arc l = GoesBack l.network l.fn.node.0 l.value (IsAmong l.arc-items l.arc-index) l.initial.self l.self
