use Rattle.std.proofs.Common.{◌-◌, ℕ, List}
use Rattle.line_text.specs.Texts.{HasCome}
use Rattle.gr_reader.specs.Steps.{HasLines}
use Rattle.gr_reader.proofs.read.read_records.Given as goal

abbrev pub invariant-lines : goal.invariant-lines
invariant-lines g l = record {
  texts : List (List ℕ);
  come : HasCome l.fn.limits (g.S.Source.state l.fn.source) (g.S.Source.state l.source) l.lines texts;
  has : HasLines g.G.Grammar.rules g.K.RecordSink.has_taken l.fn.sink l.sink texts l.begun;
}

abbrev pub decreases-lines : goal.decreases-lines
decreases-lines g l = l.lines.limits.total - l.lines.passed
