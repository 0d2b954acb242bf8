use Rattle.std.proofs.lemmas.Result.{err_from_is_err_and}
use Rattle.route_top.proofs.ServeLemmas.{not_ready, serves_over}
use Rattle.route_top.proofs.serve.serve_doors.Goals as goal

pub returns-in_err-put_ready : goal.returns-in_err-put_ready
returns-in_err-put_ready g c =
    let p = err_from_is_err_and c.from_residual.result c.from_residual.ensures.1 in
    rw (p.1, p.2) (not_ready c.args.asked.now _ _ _ _ _ (rw c.get-lanes.ensures.value at c.in_err-put_ready.ensures))

pub returns : goal.returns
returns g c =
    let asked = c.args.asked.now in
    let lanes = rw (c.requires.budget, c.requires.policy) at c.serve_lanes.ensures in
    rw c.end_of.ensures (serves_over asked c.args.context.now.graph.now c.args.weights c.requires.weights _ _ _ _ _ (rw c.get-lanes.ensures.value at c.in_ok-put_ready.ensures) lanes)
