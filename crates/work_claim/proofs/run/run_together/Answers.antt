use Rattle.std.proofs.Common.{sym}
use Rattle.std.proofs.lemmas.Result.{IfOk-weaker, IfOk-at_ok}
use Rattle.work_claim.specs.Results.{AreDone, AreInOrder, GivesAll}
use Rattle.work_claim.proofs.OrderLemmas.{gives_ordered}
use Rattle.work_claim.proofs.run.run_together.Goals as goal

pub returns : goal.returns
returns g c =
    let gives = g.J.Job.gives c.args.job.now in
    let counter = c.in_ok-counter.counter in
    let done = c.in_ok-report.field-0.items in
    let numbers = c.run-report.result.seat.draws.numbers in
    let all = IfOk-at_ok (λ d. AreDone gives counter.pieces numbers d.items) c.in_ok-report.was c.run-report.ensures.results in
    rw (sym c.in_ok-counter.ensures.pieces)
    (IfOk-weaker c.in_order.result (λ outs. AreInOrder done outs.items) (λ outs. GivesAll gives counter.pieces outs.items)
    (λ outs. gives_ordered gives counter.pieces numbers done c.close.ensures all outs.items) c.in_order.ensures)
