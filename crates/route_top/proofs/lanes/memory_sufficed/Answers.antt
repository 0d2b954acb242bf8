use Rattle.std.proofs.Common.{arith}
use Rattle.route_top.proofs.lanes.memory_sufficed.Goals as goal

pub returns : goal.returns
returns c = λ k d within. c.loop-report.invariant k d (omega arith) (omega (arith, within, c.loop-report-test.false))
