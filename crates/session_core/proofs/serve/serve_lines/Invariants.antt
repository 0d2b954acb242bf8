use Rattle.std.proofs.Common.{◌-◌}
use Rattle.session_core.specs.Serving.{Served}
use Rattle.session_core.proofs.serve.serve_lines.Given as goal

abbrev pub invariant-lines : goal.invariant-lines
invariant-lines g l =
    Served (g.H.LineHandler.runs l.context) l.fn.policy l.fn.handler l.handler (g.S.Source.state l.fn.link.from) (g.S.Source.state l.link.from)
    (g.K.Sink.state l.fn.link.to) (g.K.Sink.state l.link.to) l.lines

abbrev pub decreases-lines : goal.decreases-lines
decreases-lines g l = l.lines.limits.total - l.lines.passed
