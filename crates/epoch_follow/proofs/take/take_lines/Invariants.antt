use Rattle.std.proofs.Common.{◌≡◌, ◌-◌, false, None, IfSome, IsSomeAnd}
use mathlib.Core.List.{IsPrefix}
use Rattle.route_io.specs.Sources.{ReadsFrom}
use Rattle.line_text.specs.Reading.{KnowsEnd}
use Rattle.epoch_follow.specs.Reads.{Awaits, HasRun, rest_behind, state_of}
use Rattle.epoch_follow.specs.Runs.{feed_limits}
use Rattle.epoch_follow.specs.Text.{head_of}
use Rattle.epoch_follow.proofs.take.take_lines.Given as goal

-- so many lines were taken, and what is left gives the rest of the run
abbrev pub invariant-lines : goal.invariant-lines
invariant-lines g l = record {
  limits : l.lines.limits ≡ feed_limits l.fn.lines.limits.total;
  goes_on : l.lines.fault ≡ None;
  knows_end : KnowsEnd l.lines (g.S.Source.state l.source);
  awaits : Awaits (head_of l.graph g.T.Store.origin.first) l.operator l.due;
  begins : IsPrefix l.fn.operator.published l.operator.published;
  source : ReadsFrom (g.S.Source.state l.fn.source) (g.S.Source.state l.source) false;
  known : IfSome (g.S.Source.state l.fn.source).left (λ bytes. IsSomeAnd (rest_behind l.lines (g.S.Source.state l.source))
      (HasRun (head_of l.graph g.T.Store.origin.first) l.fn.lines.limits.total l.fn.operator.published bytes (state_of l.operator l.due l.lines) l.lines.ended));
}

abbrev pub decreases-lines : goal.decreases-lines
decreases-lines g l = l.lines.limits.total - l.lines.passed
