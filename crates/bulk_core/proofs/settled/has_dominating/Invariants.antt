use Rattle.std.proofs.Common.{ℕ, ◌<◌}
use Rattle.bulk_core.specs.Settled.{HasDominatingAt}
use Rattle.bulk_core.proofs.settled.has_dominating.Given as goal

abbrev pub invariant-loop-k : goal.invariant-loop-k
invariant-loop-k g l = (i : ℕ) → i < l.k → ¬ HasDominatingAt (g.F.SettledFront.costs l.front) (g.F.Cost.StoredCost.components l.cost) i
