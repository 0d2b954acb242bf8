use Rattle.std.proofs.Common.{◌≤◌, ◌<◌}
use Rattle.waiting_queue.specs.Shadows.{second_of}
use Rattle.waiting_queue.proofs.OrderLemmas.{IsLeft}
use Rattle.waiting_queue.proofs.shadow.count_up_to.Given as goal

abbrev pub invariant-loop-size : goal.invariant-loop-size
invariant-loop-size g l =
    let f = g.C.StoredCost.components in
    IsLeft (λ x. second_of (f l.cost) ≤ second_of (f x)) (λ x. second_of (f x) < second_of (f l.cost)) l.shadow l.start l.size

abbrev pub decreases-loop-size : goal.decreases-loop-size
decreases-loop-size g l = l.size
