use Rattle.std.proofs.Common.{ℕ, subst}
use Rattle.sweep_parts.specs.Settled.{IsSettledList}
use Rattle.sweep_core.specs.Sweeps.{Sweep, costs_at}
use Rattle.sweep_core.proofs.sweep.Sweep.is_full.Goals as goal

pub returns-clause-ordered : goal.returns-clause-ordered
returns-clause-ordered g c = subst (λ (z : Sweep). (v : ℕ) → IsSettledList (costs_at z v)) c.self.view_is c.are_settled.ensures
