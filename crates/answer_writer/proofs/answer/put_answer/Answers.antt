use Rattle.std.proofs.Common.{List, subst}
use Rattle.std.proofs.lemmas.Result.{err_from_is_err_and}
use Rattle.road_network.specs.Answers.{IsAnswer, Route}
use Rattle.road_network.specs.Queries.{limit_of}
use Rattle.answer_writer.specs.Pages.{Cuts, Holds}
use Rattle.answer_writer.specs.Replies.{reply_of}
use Rattle.answer_writer.proofs.GathersLemmas.{Gathers-cut, Holds-then, Holds-cut, Sends-held, one_write_cut, one_write_held}
use Rattle.answer_writer.proofs.RouteLemmas.{reply_on_page, routes_found, tells_routes}
use Rattle.answer_writer.proofs.answer.put_answer.Goals as goal

pub put_lines-requires-clause-tells : goal.put_lines-requires-clause-tells
put_lines-requires-clause-tells g c =
    tells_routes c.args.network.now c.args.query.now (g.F.FoundCosts.state c.args.found.now) _ c.requires.of_query c.requires.well_found c.count-count.ensures.found

pub returns-in_err-put_first_line : goal.returns-in_err-put_first_line
returns-in_err-put_first_line g c =
    let p = err_from_is_err_and c.from_residual.result c.from_residual.ensures.1 in
    let found = g.F.FoundCosts.state c.args.found.now in
    let net = c.args.network.now in
    let query = c.args.query.now in
    let cut : (routes : List Route) → IsAnswer net query.from query.to (limit_of net.criteria query) routes
    → Cuts (g.K.Sink.state c.args.sink.now) (g.K.Sink.state c.put_first_line.new.sink) (reply_of c.args.kind c.args.epoch query routes) c.in_err-put_first_line.field-0.0 =
    λ routes answer.
    let its = routes_found net query found _ c.requires.of_query c.requires.well_found routes answer in
    let whole = reply_on_page net found c.count-count.ensures.found routes its c.args.kind c.args.epoch query
    c.count-count.result c.count-count.ensures.value c.new-page.result c.new-page.ensures in
    subst (λ t. Cuts (g.K.Sink.state c.args.sink.now) (g.K.Sink.state c.put_first_line.new.sink) t c.in_err-put_first_line.field-0.0) whole
    (Gathers-cut _ _ c.new-page.result _ _ _ c.in_err-put_first_line.ensures) in
    record {
      sent = λ routes answer. rw (p.1, p.2) (cut routes answer).sends;
      one_write = λ routes answer. one_write_cut _ _ _ _ (cut routes answer);
    }

pub returns-in_err-put_lines : goal.returns-in_err-put_lines
returns-in_err-put_lines g c =
    let p = err_from_is_err_and c.from_residual-in_err-put_lines.result c.from_residual-in_err-put_lines.ensures.1 in
    let found = g.F.FoundCosts.state c.args.found.now in
    let net = c.args.network.now in
    let query = c.args.query.now in
    let cut : (routes : List Route) → IsAnswer net query.from query.to (limit_of net.criteria query) routes
    → Cuts (g.K.Sink.state c.args.sink.now) (g.K.Sink.state c.put_lines.new.sink) (reply_of c.args.kind c.args.epoch query routes) c.in_err-put_lines.field-0.0 =
    λ routes answer.
    let its = routes_found net query found _ c.requires.of_query c.requires.well_found routes answer in
    let whole = reply_on_page net found c.count-count.ensures.found routes its c.args.kind c.args.epoch query
    c.count-count.result c.count-count.ensures.value c.new-page.result c.new-page.ensures in
    subst (λ t. Cuts (g.K.Sink.state c.args.sink.now) (g.K.Sink.state c.put_lines.new.sink) t c.in_err-put_lines.field-0.0) whole
    (Holds-cut _ _ _ c.new-page.result c.put_first_line.new.self _ _ c.in_ok-put_first_line.ensures _ (c.in_err-put_lines.ensures.lines routes its)) in
    record {
      sent = λ routes answer. rw (p.1, p.2) (cut routes answer).sends;
      one_write = λ routes answer. one_write_cut _ _ _ _ (cut routes answer);
    }

pub returns : goal.returns
returns g c =
    let found = g.F.FoundCosts.state c.args.found.now in
    let net = c.args.network.now in
    let query = c.args.query.now in
    let held : (routes : List Route) → IsAnswer net query.from query.to (limit_of net.criteria query) routes
    → Holds (g.K.Sink.state c.args.sink.now) (g.K.Sink.state c.put_lines.new.sink) (reply_of c.args.kind c.args.epoch query routes) c.put_lines.new.self =
    λ routes answer.
    let its = routes_found net query found _ c.requires.of_query c.requires.well_found routes answer in
    let whole = reply_on_page net found c.count-count.ensures.found routes its c.args.kind c.args.epoch query
    c.count-count.result c.count-count.ensures.value c.new-page.result c.new-page.ensures in
    subst (λ t. Holds (g.K.Sink.state c.args.sink.now) (g.K.Sink.state c.put_lines.new.sink) t c.put_lines.new.self) whole
    (Holds-then _ _ _ c.new-page.result c.put_first_line.new.self _ _
    c.in_ok-put_first_line.ensures c.put_lines.new.self (c.in_ok-put_lines.ensures.lines routes its)) in
    record {
      sent = λ routes answer. Sends-held _ _ _ _ c.put_lines.new.self c.send.result (held routes answer) c.send.ensures.sent;
      one_write = λ routes answer. one_write_held _ _ _ _ c.put_lines.new.self (held routes answer) c.send.ensures.whole;
    }
