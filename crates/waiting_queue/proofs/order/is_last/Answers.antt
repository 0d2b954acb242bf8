use Rattle.std.proofs.Common.{arith, sym}
use Rattle.waiting_queue.proofs.order.is_last.Goals as goal

pub returns-in-Some : goal.returns-in-Some
returns-in-Some g c = (λ yes. (c.in-Some.last.now, sym c.in-Some.ensures.value, c.is_same_spot.ensures.0 yes), λ ends. grind arith)
