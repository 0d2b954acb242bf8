use Rattle.cert_writer.specs.Text.{label_line}
use Rattle.answer_writer.proofs.GathersLemmas.{HoldsFirst}
use Rattle.cert_writer.proofs.writing.put_labels.Given as goal

-- the first ones were gathered
abbrev pub invariant-loop-i : goal.invariant-loop-i
invariant-loop-i g l = HoldsFirst label_line l.listing.cert.labels (g.K.Sink.state l.fn.sink) (g.K.Sink.state l.sink) l.fn.page l.i l.page
