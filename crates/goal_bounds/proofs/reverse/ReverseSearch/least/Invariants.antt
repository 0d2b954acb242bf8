use Rattle.goal_bounds.specs.Reverse.{IsReverse, weight_of}
use Rattle.goal_bounds.proofs.reverse.ReverseSearch.least.Given as goal

-- it is the same search still
abbrev pub invariant-loop-self : goal.invariant-loop-self
invariant-loop-self l = IsReverse l.network l.initial.self.target l.initial.self.criterion l.self

abbrev pub decreases-loop-self : goal.decreases-loop-self
decreases-loop-self l = weight_of l.self
