use Rattle.std.proofs.Common.{arith}
use Rattle.waiting_queue.proofs.ranges.are_whole.Goals as goal

pub returns : goal.returns
returns g c = λ k d within. c.loop-part.invariant k d (omega arith) (omega (arith, within, c.loop-part-test.false))
