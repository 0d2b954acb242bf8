use Rattle.sweep_core.proofs.CostLemmas.{IsMovedUpTo}
use Rattle.sweep_core.proofs.moving.moved_on.Given as goal

-- the components so far are moved on
abbrev pub invariant-loop-i : goal.invariant-loop-i
invariant-loop-i g l = IsMovedUpTo g.row.D l.cost.0 l.own l.by l.height l.i l.components
