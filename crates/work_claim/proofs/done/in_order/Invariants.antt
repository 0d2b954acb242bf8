use Rattle.std.proofs.Common.{◌≡◌, map}
use Rattle.work_claim.proofs.done.in_order.Given as goal

abbrev pub invariant-loop-one : goal.invariant-loop-one
invariant-loop-one g l = l.outs.items ≡ map (λ d. d.out) l.yielded
