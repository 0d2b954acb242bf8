use Rattle.std.proofs.Common.{◌-◌}
use Rattle.sweep_parts.specs.Settled.{count_settled}
use Rattle.sweep_core.specs.Sweeps.{IsSameSearch, IsSweep}
use Rattle.sweep_core.proofs.sweep.Sweep.run.Given as goal

-- it is a state of the same search
abbrev pub invariant-labels : goal.invariant-labels
invariant-labels g l = record {
  tells : g.P.Potential.tells l.potential l.network l.initial.self.target;
  same : IsSameSearch l.initial.self l.self;
  sweep : IsSweep l.network (g.P.Potential.height l.network l.initial.self.target) l.self;
}

abbrev pub decreases-labels : goal.decreases-labels
decreases-labels g l = l.self.budget - count_settled l.self.settled
