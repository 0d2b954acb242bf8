use Rattle.std.proofs.Common.{Err, subst}
use Rattle.std.proofs.lemmas.Result.{err_from_is_err_and}
use Rattle.road_network.specs.Queries.{limit_of}
use Rattle.route_io.specs.Sinks.{Sends}
use Rattle.route_io.proofs.SendsLemmas.{Sends-cut, Sends-then}
use Rattle.answer_writer.specs.Replies.{first_line, lines_between}
use Rattle.answer_writer.proofs.RouteLemmas.{routes_found, whole_reply}
use Rattle.session_core.proofs.answerer.Answerer.put_found.Goals as goal

pub returns-in_err-put_first_line : goal.returns-in_err-put_first_line
returns-in_err-put_first_line g c = λ routes answer.
    let p = err_from_is_err_and c.from_residual.result c.from_residual.ensures.1 in
    let net = c.args.self.now.network.now in
    let its = routes_found net c.args.query.now (g.F.FoundCosts.state c.args.found.now) (limit_of net.criteria c.args.query.now) c.requires.of_query c.requires.well_found routes answer in
    let whole = whole_reply net (g.F.FoundCosts.state c.args.found.now) c.count-count.ensures.found routes its c.args.kind c.args.epoch c.args.query.now c.count-count.result c.count-count.ensures.value in
    rw (p.1, p.2) (subst (λ t. Sends {T = Unit {0}} (g.K.Sink.state c.args.out.now) (g.K.Sink.state c.put_first_line.new.sink) t (Err c.in_err-put_first_line.field-0.0)) whole
    (Sends-cut (g.K.Sink.state c.args.out.now) (g.K.Sink.state c.put_first_line.new.sink) (first_line c.args.epoch c.args.query.now c.count-count.result)
    (lines_between c.args.kind routes 0 c.count-count.result) c.in_err-put_first_line.field-0.0 c.in_err-put_first_line.ensures.sent))

pub returns : goal.returns
returns g c = λ routes answer.
    let net = c.args.self.now.network.now in
    let its = routes_found net c.args.query.now (g.F.FoundCosts.state c.args.found.now) (limit_of net.criteria c.args.query.now) c.requires.of_query c.requires.well_found routes answer in
    let whole = whole_reply net (g.F.FoundCosts.state c.args.found.now) c.count-count.ensures.found routes its c.args.kind c.args.epoch c.args.query.now c.count-count.result c.count-count.ensures.value in
    subst (λ t. Sends (g.K.Sink.state c.args.out.now) (g.K.Sink.state c.put_windows.new.out) t c.put_windows.result) whole
    (Sends-then (g.K.Sink.state c.args.out.now) (g.K.Sink.state c.put_first_line.new.sink) (g.K.Sink.state c.put_windows.new.out)
    (first_line c.args.epoch c.args.query.now c.count-count.result) (lines_between c.args.kind routes 0 c.count-count.result) c.put_windows.result
    c.in_ok-put_first_line.ensures.sent (rw c.count-count.ensures.value (c.put_windows.ensures routes its)))
