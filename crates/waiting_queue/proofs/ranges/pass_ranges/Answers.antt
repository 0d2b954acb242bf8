use Rattle.std.proofs.Common.{sym, arith}
use Rattle.std.proofs.lemmas.List.{take_at}
use Rattle.std.proofs.lemmas.Result.{IfOk-weaker}
use Rattle.waiting_queue.specs.Ranges.{others_of}
use Rattle.waiting_queue.proofs.RangeLemmas.{are_passed}
use Rattle.waiting_queue.proofs.ranges.pass_ranges.Goals as goal

pub returns : goal.returns
returns g c =
    IfOk-weaker c.are_whole.result _ _ (λ _ whole. are_passed g.C.StoredCost.components (g.K.Look.IsOpen c.args.look.now)
    (rw (sym c.deref.ensures.value) at (c.in_ok-ranges.ensures (others_of c.args.lists.now)))
    (omega arith) c.fill_each.ensures (take_at _ _ _ (omega arith)) (rw c.deref-2.ensures.value at whole)) c.are_whole.ensures

pub fill_each-requires-after_bounds : goal.fill_each-requires-after_bounds
fill_each-requires-after_bounds g c κs within = λ place below.
    let ranges = (rw (sym c.deref.ensures.value) at (c.in_ok-ranges.ensures (others_of c.args.lists.now))).each in
    grind arith
