use Rattle.sweep_search.proofs.BareLemmas.{AreBareUpTo}
use Rattle.sweep_search.proofs.lowering.lower_all.Given as goal

-- the first nodes have their costs without heights
abbrev pub invariant-loop-place : goal.invariant-loop-place
invariant-loop-place g l = record {
  tells : g.P.Potential.tells l.potential l.network l.target.0;
  bare : AreBareUpTo l.network (g.P.Potential.height l.network l.target.0) l.place l.initial.found l.found;
}
