use Rattle.std.proofs.Common.{arith}
use Rattle.cost_vector.proofs.Components.{below_this, below_other}
use Rattle.front_cert.proofs.CornerLemmas.{meet_taken}
use Rattle.front_cert.proofs.corners.meet.Goals as goal

pub returns-clause-first : goal.returns-clause-first
returns-clause-first c =
    rw c.of_numbers.ensures (below_this (meet_taken c.args.a.now c.args.b.now c.loop-i.places c.count.result c.count.ensures.value c.requires
    (omega (arith, c.count.ensures.at_most_four, c.loop-i.invariant.long)) (λ k below. c.loop-i.invariant.lesser k (omega (arith, below, c.loop-i-test.false, c.count.ensures.value, c.count-i-end.ensures.value)))))

pub returns-clause-second : goal.returns-clause-second
returns-clause-second c =
    rw c.of_numbers.ensures (below_other (meet_taken c.args.a.now c.args.b.now c.loop-i.places c.count.result c.count.ensures.value c.requires
    (omega (arith, c.count.ensures.at_most_four, c.loop-i.invariant.long)) (λ k below. c.loop-i.invariant.lesser k (omega (arith, below, c.loop-i-test.false, c.count.ensures.value, c.count-i-end.ensures.value)))))
