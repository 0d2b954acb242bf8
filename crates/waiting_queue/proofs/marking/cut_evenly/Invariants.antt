use Rattle.std.proofs.Common.{◌≡◌, ◌+◌, ◌-◌, ◌≤◌, ◌++◌, length, map}
use Rattle.waiting_queue.specs.Joining.{joined}
use Rattle.waiting_queue.proofs.marking.cut_evenly.Given as goal

abbrev pub invariant-loop-rest : goal.invariant-loop-rest
invariant-loop-rest g l = (joined (map (λ p. p.now) l.pieces.items) ++ l.rest ≡ l.list) × (length l.pieces.items + 1 ≤ l.count)

abbrev pub decreases-loop-rest : goal.decreases-loop-rest
decreases-loop-rest g l = l.count - length l.pieces.items
