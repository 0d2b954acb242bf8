use Rattle.std.proofs.Common.{Err, subst, ◌++◌}
use Rattle.std.specs.List.{flat_map}
use Rattle.std.proofs.lemmas.Result.{err_from_is_err_and}
use Rattle.route_io.specs.Sinks.{Sends}
use Rattle.answer_writer.proofs.GathersLemmas.{Gathers-cut, Holds-then, Holds-cut, Sends-held}
use Rattle.cert_writer.specs.Text.{cert_text, heading_line, label_line}
use Rattle.cert_writer.proofs.writing.write_cert.Goals as goal

pub returns-in_err-put_heading : goal.returns-in_err-put_heading
returns-in_err-put_heading g c =
    let p = err_from_is_err_and c.from_residual.result c.from_residual.ensures.1 in
    let l = c.args.listing.now in
    let text = cert_text l.criteria l.cert in
    rw (p.1, p.2) (subst (λ page. Sends {T = Unit {0}} (g.K.Sink.state c.args.sink.now) (g.K.Sink.state c.put_heading.new.sink) (page ++ text) (Err c.in_err-put_heading.field-0.0)) c.new-page.ensures
    (Gathers-cut _ _ c.new-page.result (heading_line l.criteria l.cert) (flat_map label_line l.cert.labels) _ c.in_err-put_heading.ensures).sends)

pub returns-in_err-put_labels : goal.returns-in_err-put_labels
returns-in_err-put_labels g c =
    let p = err_from_is_err_and c.from_residual-in_err-put_labels.result c.from_residual-in_err-put_labels.ensures.1 in
    let l = c.args.listing.now in
    let text = cert_text l.criteria l.cert in
    rw (p.1, p.2) (subst (λ page. Sends {T = Unit {0}} (g.K.Sink.state c.args.sink.now) (g.K.Sink.state c.put_labels.new.sink) (page ++ text) (Err c.in_err-put_labels.field-0.0)) c.new-page.ensures
    (Holds-cut _ _ _ c.new-page.result c.put_heading.new.page _ _ c.in_ok-put_heading.ensures _ c.in_err-put_labels.ensures).sends)

pub returns : goal.returns
returns g c =
    let l = c.args.listing.now in
    let text = cert_text l.criteria l.cert in
    let held = Holds-then (g.K.Sink.state c.args.sink.now) (g.K.Sink.state c.put_heading.new.sink) (g.K.Sink.state c.put_labels.new.sink) c.new-page.result c.put_heading.new.page _ _
    c.in_ok-put_heading.ensures c.put_labels.new.page c.in_ok-put_labels.ensures in
    subst (λ page. Sends {T = Unit {0}} (g.K.Sink.state c.args.sink.now) (g.K.Sink.state c.send.new.sink) (page ++ text) c.send.result) c.new-page.ensures
    (Sends-held _ _ _ _ c.put_labels.new.page c.send.result held c.send.ensures.sent)
