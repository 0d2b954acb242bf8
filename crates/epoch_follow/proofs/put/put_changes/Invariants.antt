use Rattle.std.proofs.Common.{take}
use Rattle.std.specs.List.{flat_map}
use Rattle.route_io.proofs.SendsLemmas.{Sent}
use Rattle.epoch_follow.specs.Text.{change_line}
use Rattle.epoch_follow.proofs.put.put_changes.Given as goal

-- the lines of the first ones were sent
abbrev pub invariant-loop-change : goal.invariant-loop-change
invariant-loop-change g l = Sent (g.K.Sink.state l.fn.sink) (g.K.Sink.state l.sink) (flat_map change_line (take l.change-index l.changes))
