use Rattle.std.proofs.Common.{◌+◌, [], Err, replicate, ap, subst, ◌∙◌}
use Rattle.waiting_item.specs.Waiting.{as_waiting}
use Rattle.road_network.specs.Queries.{limit_of}
use Rattle.sweep_core.specs.Potentials.{HasNoRoom}
use Rattle.sweep_core.specs.Sweeps.{Sweep}
use Rattle.sweep_core.proofs.Beginning.{begins}
use Rattle.sweep_core.proofs.FaultLemmas.{was_wide}
use Rattle.sweep_core.proofs.sweep.Sweep.new.Goals as goal

pub returns-clause-sweep : goal.returns-clause-sweep
returns-clause-sweep g c =
    let net = c.args.network.now in let query = c.args.query.now in let t = query.to in
    let is = g.met.P.Potential.consistent net t c.nodes.ensures.network c.requires.query.to in
    let s : Sweep = record {
      start = query.from;
      target = query.to;
      limit = c.new-limit.result;
      budget = query.budget;
      settled = g.S.SettledLists.lists c.in_ok-new.field-0;
      queue = g.Q.LeastQueue.waiting c.in_ok-queue_of.field-0;
    } in
    begins net t (g.P.Potential.height net t) is s c.requires.query.from c.requires.query.to
    (c.in_ok-new.ensures ∙ ap (λ n. replicate (n + 1) []) c.nodes-2.ensures.count) (as_waiting g.S.Cost.StoredCost.components) c.in_ok-first.first
    c.in_ok-first.ensures.start c.in_ok-queue_of.ensures.none c.in_ok-queue_of.ensures.one

pub returns-in_err-first-clause-too_wide : goal.returns-in_err-first-clause-too_wide
returns-in_err-first-clause-too_wide g c = λ wide.
    let net = c.args.network.now in let query = c.args.query.now in let P = g.P.Potential.height net query.to in
    let was = was_wide c.from_residual.result c.in_err-first.field-0.0 c.from_residual.ensures.1 wide in
    subst (λ l. HasNoRoom net query.from query.to l P g.S.Cost.Part.Part.bound) (c.new-limit.ensures ∙ c.limit_in.ensures ∙ ap (λ n. limit_of n query) c.criteria-2.ensures.count)
    (c.in_err-first.ensures.too_wide (ap (λ f. Err f) was))
