use Rattle.answer_writer.specs.Replies.{and_number}
use Rattle.answer_writer.proofs.GathersLemmas.{HoldsFirst}
use Rattle.answer_writer.proofs.page.Page.put_components.Given as goal

-- the first ones were gathered
abbrev pub invariant-loop-place : goal.invariant-loop-place
invariant-loop-place g l = HoldsFirst and_number l.cost (g.K.Sink.state l.fn.sink) (g.K.Sink.state l.sink) l.fn.self l.place l.self
