use Rattle.std.proofs.Common.{Some, arith}
use Rattle.std.proofs.lemmas.Result.{IfOk-weaker}
use Rattle.session_core.proofs.window.Window.make_texts.Goals as goal

pub returns : goal.returns
returns g c = IfOk-weaker c.run_pieces.result _ _ (λ texts all. record {
  begin = λ piece within. c.pieces-pieces.ensures.each piece (omega (arith, within, all.count));
  end = omega (arith, c.pieces-pieces.ensures.all, all.count);
  each = λ piece text at. all.each piece (Some text) at;
}) c.run_pieces.ensures
