use Rattle.std.proofs.Common.{arith}
use Rattle.waiting_item.specs.Waiting.{spot_in}
use Rattle.waiting_queue.proofs.OrderLemmas.{same_by_test}
use Rattle.waiting_queue.proofs.order.is_same_spot.Goals as goal

pub returns-then-eq : goal.returns-then-eq
returns-then-eq g c =
    same_by_test (spot_in g.C.StoredCost.components c.args.a.now) (spot_in g.C.StoredCost.components c.args.b.now) c.is_eq.result (grind arith) (grind arith)
