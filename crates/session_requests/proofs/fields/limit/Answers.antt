use Rattle.std.proofs.Common.{rules}
use Rattle.session_requests.proofs.EachLemmas.{reads_more}
use Rattle.session_requests.proofs.fields.limit.Goals as goal

pub loop-i-preserved : goal.loop-i-preserved
loop-i-preserved c = reads_more _ _ _ _ _ _ c.loop-i.invariant c.loop-i-test.true _ _ _ c.in_ok-bound.ensures (search rules)
