use Rattle.std.proofs.Common.{◌++◌, subst}
use Rattle.std.proofs.lemmas.Result.{err_from_is_err_and}
use Rattle.answer_writer.specs.Pages.{Cuts, Holds}
use Rattle.answer_writer.specs.Replies.{lines_between}
use Rattle.answer_writer.proofs.GathersLemmas.{Sends-held, one_write_cut, one_write_held}
use Rattle.answer_writer.proofs.answer.put_routes.Goals as goal

pub returns-in_err-put_lines-clause-lines : goal.returns-in_err-put_lines-clause-lines
returns-in_err-put_lines-clause-lines g c = λ routes its.
    let p = err_from_is_err_and c.from_residual.result c.from_residual.ensures.1 in
    let text = lines_between c.args.kind routes c.args.places.start c.args.places.end in
    rw (p.1, p.2) (subst (λ page. Cuts (g.K.Sink.state c.args.sink.now) (g.K.Sink.state c.put_lines.new.sink) (page ++ text) c.in_err-put_lines.field-0.0)
    c.new-page.ensures (c.in_err-put_lines.ensures.lines routes its)).sends

pub returns-in_err-put_lines-clause-one_write : goal.returns-in_err-put_lines-clause-one_write
returns-in_err-put_lines-clause-one_write g c = λ routes its.
    let text = lines_between c.args.kind routes c.args.places.start c.args.places.end in
    one_write_cut _ _ text c.in_err-put_lines.field-0.0
    (subst (λ page. Cuts (g.K.Sink.state c.args.sink.now) (g.K.Sink.state c.put_lines.new.sink) (page ++ text) c.in_err-put_lines.field-0.0)
    c.new-page.ensures (c.in_err-put_lines.ensures.lines routes its))

pub returns-clause-lines : goal.returns-clause-lines
returns-clause-lines g c = λ routes its.
    let text = lines_between c.args.kind routes c.args.places.start c.args.places.end in
    let held = subst (λ page. Holds (g.K.Sink.state c.args.sink.now) (g.K.Sink.state c.put_lines.new.sink) (page ++ text) c.put_lines.new.self)
    c.new-page.ensures (c.in_ok-put_lines.ensures.lines routes its) in
    Sends-held _ _ _ text c.put_lines.new.self c.send.result held c.send.ensures.sent

pub returns-clause-one_write : goal.returns-clause-one_write
returns-clause-one_write g c = λ routes its.
    let text = lines_between c.args.kind routes c.args.places.start c.args.places.end in
    let held = subst (λ page. Holds (g.K.Sink.state c.args.sink.now) (g.K.Sink.state c.put_lines.new.sink) (page ++ text) c.put_lines.new.self)
    c.new-page.ensures (c.in_ok-put_lines.ensures.lines routes its) in
    one_write_held _ _ _ text c.put_lines.new.self held c.send.ensures.whole
