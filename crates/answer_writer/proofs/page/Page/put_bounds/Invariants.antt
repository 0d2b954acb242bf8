use Rattle.answer_writer.specs.Replies.{and_bound}
use Rattle.answer_writer.proofs.GathersLemmas.{HoldsFirst}
use Rattle.answer_writer.proofs.page.Page.put_bounds.Given as goal

-- the first ones were gathered
abbrev pub invariant-loop-place : goal.invariant-loop-place
invariant-loop-place g l = HoldsFirst and_bound l.limit (g.K.Sink.state l.fn.sink) (g.K.Sink.state l.sink) l.fn.self l.place l.self
