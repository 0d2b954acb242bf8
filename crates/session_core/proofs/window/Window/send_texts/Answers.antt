use Rattle.std.proofs.Common.{◌≡◌, ◌+◌, ◌*◌, min, arith, subst}
use Rattle.std.proofs.lemmas.Result.{err_from_is_err_and}
use Rattle.session_core.specs.Windows.{piece_size}
use Rattle.session_core.proofs.WindowLemmas.{SentLines, no_lines, piece_cut, piece_sent}
use Rattle.session_core.proofs.window.Window.send_texts.Goals as goal

pub loop-made-init : goal.loop-made-init
loop-made-init g c = λ routes its. no_lines c.args.self.now.kind routes _ c.args.self.now.from _ (omega (arith, c.requires.window.rises))

pub loop-made-preserved : goal.loop-made-preserved
loop-made-preserved g c = λ routes its.
    let w = c.args.self.now in
    piece_sent w.network.now _ w.kind w.from w.to c.args.texts.now c.requires.texts c.requires.whole routes its
    (g.K.Sink.state c.args.out.now) (g.K.Sink.state c.loop-made.out) (g.K.Sink.state c.put_all.new.sink) c.loop-made.made-index c.made-item.result
    c.text_of.result.now c.loop-made-test.true c.made-item.is c.text_of.ensures (c.loop-made.invariant routes its) c.in_ok-put_all.ensures.sent

pub returns-in_err-put_all : goal.returns-in_err-put_all
returns-in_err-put_all g c = λ routes its.
    let w = c.args.self.now in
    let p = err_from_is_err_and c.from_residual.result c.from_residual.ensures.1 in
    rw (p.1, p.2) (piece_cut w.network.now _ w.kind w.from w.to c.args.texts.now c.requires.texts c.requires.whole routes its
    (g.K.Sink.state c.args.out.now) (g.K.Sink.state c.loop-made.out) (g.K.Sink.state c.put_all.new.sink) c.loop-made.made-index c.made-item.result
    c.text_of.result.now c.loop-made-test.true c.made-item.is c.text_of.ensures (c.loop-made.invariant routes its) _ c.in_err-put_all.ensures.sent)

pub returns : goal.returns
returns g c = λ routes its.
    let w = c.args.self.now in
    let all : min w.to (w.from + c.loop-made.made-index * piece_size) ≡ w.to = omega (arith, c.loop-made-test.false, c.requires.texts.end) in
    subst (SentLines w.kind routes _ _ w.from) all (c.loop-made.invariant routes its)
