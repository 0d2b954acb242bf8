use Rattle.std.proofs.Common.{length}
use Rattle.sweep_core.specs.Sweeps.{IsSpentBy}
use Rattle.sweep_parts.specs.Leaving.{LosesSpent}
use Rattle.sweep_core.proofs.look.take_unspent.Given as goal

-- only what is spent has left
abbrev pub invariant-items : goal.invariant-items
invariant-items g l = LosesSpent (IsSpentBy (g.S.SettledLists.lists l.lists) l.fn.target.0) (g.Q.LeastQueue.waiting l.fn.queue) (g.Q.LeastQueue.waiting l.queue)

abbrev pub decreases-items : goal.decreases-items
decreases-items g l = length (g.Q.LeastQueue.waiting l.queue)
