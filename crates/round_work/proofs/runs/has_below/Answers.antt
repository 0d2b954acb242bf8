use Rattle.std.proofs.Common.{sym}
use Rattle.round_work.proofs.runs.has_below.Goals as goal

pub returns-then-at_most-clause-some : goal.returns-then-at_most-clause-some
returns-then-at_most-clause-some g c = λ yes.
    (c.loop-other.other-index, c.other-item.result, c.loop-other-test.true, sym c.other-item.is, c.at_most.ensures.0 c.if-at_most.true)
