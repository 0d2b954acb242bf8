use Rattle.answer_writer.specs.Replies.{and_arc}
use Rattle.answer_writer.proofs.GathersLemmas.{HoldsFirst}
use Rattle.answer_writer.proofs.page.Page.put_arcs.Given as goal

-- the first ones were gathered
abbrev pub invariant-loop-arc : goal.invariant-loop-arc
invariant-loop-arc g l = HoldsFirst and_arc l.arcs (g.K.Sink.state l.fn.sink) (g.K.Sink.state l.sink) l.fn.self l.arc-index l.self
