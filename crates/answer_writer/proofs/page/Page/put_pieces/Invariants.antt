use Rattle.answer_writer.specs.Pieces.{text_of}
use Rattle.answer_writer.proofs.GathersLemmas.{HoldsFirst}
use Rattle.answer_writer.proofs.page.Page.put_pieces.Given as goal

-- the first ones were gathered
abbrev pub invariant-loop-piece : goal.invariant-loop-piece
invariant-loop-piece g l = HoldsFirst text_of l.pieces (g.K.Sink.state l.fn.sink) (g.K.Sink.state l.sink) l.fn.self l.piece-index l.self
