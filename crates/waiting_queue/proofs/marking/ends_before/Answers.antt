use Rattle.std.proofs.Common.{sym, arith}
use Rattle.waiting_queue.proofs.marking.ends_before.Goals as goal

pub returns-in-Some : goal.returns-in-Some
returns-in-Some g c = (
  λ yes. (c.in-Some.last.now, sym c.in-Some.ensures.value, c.is_before.ensures.0 yes),
  λ (x, got, less). grind (arith, c.is_before.ensures),
)
