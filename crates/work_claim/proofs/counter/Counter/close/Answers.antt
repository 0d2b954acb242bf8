use Rattle.std.proofs.Common.{rules, arith, sym}
use Rattle.work_claim.proofs.ClaimLemmas.{closed_once}
use Rattle.work_claim.proofs.counter.Counter.close.Goals as goal

pub free-requires : goal.free-requires
free-requires c = λ k within. absurd (omega (arith, within, c.close_with.ensures.counts.1, c.self.invariant.1))

pub returns : goal.returns
returns c =
    let end = c.close_with.ensures.values in
    rw (sym c.self.view_is, sym c.seat.view_is) (closed_once _ _ _ _ end.2.1.0 _ _ end.2.1.1 (search rules) (search rules)
    (rw (sym c.self.view_is, sym c.seat.view_is) at c.requires.done))
