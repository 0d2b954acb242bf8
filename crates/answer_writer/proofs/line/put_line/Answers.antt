use Rattle.std.proofs.Common.{◌++◌, subst}
use Rattle.std.proofs.lemmas.Result.{err_from_is_err_and}
use Rattle.answer_writer.specs.Pages.{Cuts, Holds}
use Rattle.answer_writer.specs.Pieces.{line_of}
use Rattle.answer_writer.proofs.GathersLemmas.{Sends-held, one_write_cut, one_write_held}
use Rattle.answer_writer.proofs.line.put_line.Goals as goal

pub returns-in_err-put_pieces : goal.returns-in_err-put_pieces
returns-in_err-put_pieces g c =
    let p = err_from_is_err_and c.from_residual.result c.from_residual.ensures.1 in
    let text = line_of c.args.pieces.now in
    let cut = subst (λ page. Cuts (g.K.Sink.state c.args.sink.now) (g.K.Sink.state c.put_pieces.new.sink) (page ++ text) c.in_err-put_pieces.field-0.0)
    c.new-page.ensures c.in_err-put_pieces.ensures in
    record { sent = rw (p.1, p.2) cut.sends; one_write = one_write_cut _ _ text _ cut }

pub returns : goal.returns
returns g c =
    let text = line_of c.args.pieces.now in
    let held = subst (λ page. Holds (g.K.Sink.state c.args.sink.now) (g.K.Sink.state c.put_pieces.new.sink) (page ++ text) c.put_pieces.new.self)
    c.new-page.ensures c.in_ok-put_pieces.ensures in
    record {
      sent = Sends-held _ _ _ text c.put_pieces.new.self c.send.result held c.send.ensures.sent;
      one_write = one_write_held _ _ _ text c.put_pieces.new.self held c.send.ensures.whole;
    }
