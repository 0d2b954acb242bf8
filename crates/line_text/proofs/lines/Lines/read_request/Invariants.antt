use Rattle.std.proofs.Common.{◌≡◌, ◌<◌, ◌≤◌, ◌+◌, ◌-◌, true, false, length, is_some, IsTrue}
use Rattle.route_io.specs.Sources.{ReadsFrom}
use Rattle.line_text.specs.Lines.{first_lf}
use Rattle.line_text.specs.Requests.{HoldsLine}
use Rattle.line_text.proofs.RequestLemmas.{HoldsPart}
use Rattle.line_text.proofs.lines.Lines.read_request.Given as goal

abbrev pub invariant-loop-request : goal.invariant-loop-request
invariant-loop-request g l = record {
  cuts : HoldsPart l.fn.self l.self l.skipped (g.S.Source.state l.fn.source) (g.S.Source.state l.source);
  none : l.searched ≤ first_lf l.self.held;
  counted : is_some l.skipped ≡ true → l.self.number < l.self.passed;
  held_first : HoldsLine l.fn.self → HoldsLine l.self × (l.source ≡ l.fn.source);
  at_end : IsTrue l.fn.self.ended → l.source ≡ l.fn.source;
  source : ReadsFrom (g.S.Source.state l.fn.source) (g.S.Source.state l.source) false;
}

abbrev pub decreases-loop-request : goal.decreases-loop-request
decreases-loop-request g l = l.self.limits.total + 1 - (l.self.passed + length l.self.held)
