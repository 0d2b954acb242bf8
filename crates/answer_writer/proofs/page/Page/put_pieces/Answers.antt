use Rattle.std.proofs.Common.{arith}
use Rattle.std.proofs.lemmas.Result.{err_from_is_err_and}
use Rattle.answer_writer.specs.Pieces.{text_of}
use Rattle.answer_writer.proofs.GathersLemmas.{all_held, more_held, cut_at}
use Rattle.answer_writer.proofs.page.Page.put_pieces.Goals as goal

pub loop-piece-preserved : goal.loop-piece-preserved
loop-piece-preserved g c =
    more_held text_of c.args.pieces.now c.loop-piece.piece-index c.piece-item.result c.piece-item.result c.loop-piece-test.true c.piece-item.is _ _ _ c.args.self.now c.loop-piece.self
    c.loop-piece.invariant c.put_piece.new.self c.in_ok-put_piece.ensures

pub returns-in_err-put_piece : goal.returns-in_err-put_piece
returns-in_err-put_piece g c =
    let p = err_from_is_err_and c.from_residual.result c.from_residual.ensures.1 in
    rw (p.1, p.2) (cut_at text_of c.args.pieces.now c.loop-piece.piece-index c.piece-item.result c.piece-item.result c.loop-piece-test.true c.piece-item.is _ _ _ c.args.self.now c.loop-piece.self
    c.loop-piece.invariant _ c.in_err-put_piece.ensures)

pub returns : goal.returns
returns g c = all_held text_of c.args.pieces.now _ _ c.args.self.now c.loop-piece.piece-index c.loop-piece.self (omega arith) c.loop-piece.invariant
