use Rattle.std.proofs.Common.{arith}
use Rattle.least_queue.proofs.ring.Ring.next.Goals as goal

pub returns-clause-none : goal.returns-clause-none
returns-clause-none g c n from below =
    c.loop-number.invariant n from (omega (arith, below, c.reach-number-end.ensures, c.loop-number-test.false))
