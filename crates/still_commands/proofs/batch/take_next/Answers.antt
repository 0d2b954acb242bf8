use Rattle.std.proofs.Common.{arith}
use Rattle.still_commands.proofs.AheadLemmas.{taken_ahead}
use Rattle.still_commands.proofs.batch.take_next.Goals as goal

pub returns : goal.returns
returns c = λ mode limits net pair pairs ahead.
    rw c.flatten.ensures (taken_ahead mode limits net pair pairs _ _ _ _ _ c.pop.ensures.items (omega (arith, c.pop.new.self.ok.0)) c.pop.ensures.cases ahead)
