use Rattle.std.proofs.Common.{◌≡◌, ◌≤◌, ◌+◌, ◌-◌, false, length, IsTrue}
use Rattle.route_io.specs.Sources.{ReadsFrom}
use Rattle.line_text.specs.Lines.{first_lf}
use Rattle.line_text.specs.Reading.{max_line}
use Rattle.line_text.proofs.AdvancesLemmas.{Holds}
use Rattle.line_text.proofs.lines.Lines.read_line.Given as goal

abbrev pub invariant-loop-fault : goal.invariant-loop-fault
invariant-loop-fault g l = record {
  holds : Holds l.fn.self l.self (g.S.Source.state l.fn.source) (g.S.Source.state l.source);
  none : l.searched ≤ first_lf l.self.held;
  at_end : IsTrue l.fn.self.ended → l.source ≡ l.fn.source;
  source : ReadsFrom (g.S.Source.state l.fn.source) (g.S.Source.state l.source) false;
}

abbrev pub decreases-loop-fault : goal.decreases-loop-fault
decreases-loop-fault g l = max_line + 1 - length l.self.held
