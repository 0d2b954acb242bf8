use Rattle.std.proofs.Common.{◌-◌}
use Rattle.std.specs.List.{between}
use Rattle.answer_writer.specs.Replies.{cost_line}
use Rattle.answer_writer.proofs.GathersLemmas.{HoldsFirst}
use Rattle.answer_writer.proofs.page.Page.put_costs.Given as goal

-- the first ones were gathered
abbrev pub invariant-loop-i : goal.invariant-loop-i
invariant-loop-i g l =
    HoldsFirst cost_line (between l.fn.places.start l.fn.places.end (g.F.FoundCosts.state l.found).costs) (g.K.Sink.state l.fn.sink) (g.K.Sink.state l.sink)
    l.fn.self (l.i - l.fn.places.start) l.self
