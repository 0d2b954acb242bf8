use Rattle.std.proofs.Common.{◌≡◌}
use Rattle.waiting_item.specs.Waiting.{as_waiting}
use Rattle.sweep_core.specs.Sweeps.{Follows, with_queue, without_queue}
use Rattle.sweep_core.proofs.LeadingLemmas.{IsAmong}
use Rattle.sweep_core.proofs.sweep.Sweep.relax.Given as goal

-- what the arcs so far give waits or is spent
abbrev pub invariant-loop-arc : goal.invariant-loop-arc
invariant-loop-arc g l = record {
  tells : g.P.Potential.tells l.potential l.network l.fn.self.target;
  rest : l.self ≡ with_queue l.fn.self l.self.queue;
  follows : Follows l.network (g.P.Potential.height l.network l.fn.self.target) (without_queue l.fn.self) (as_waiting g.S.Cost.StoredCost.components l.item)
      (IsAmong l.arc-items l.arc-index) l.fn.self.queue l.self.queue;
}
