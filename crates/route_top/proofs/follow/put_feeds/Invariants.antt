use Rattle.std.proofs.Common.{take}
use Rattle.route_io.proofs.SendsLemmas.{Sent}
use Rattle.route_top.specs.Follow.{feed_lines}
use Rattle.route_top.proofs.follow.put_feeds.Given as goal

-- the lines so far were sent
abbrev pub invariant-loop-place : goal.invariant-loop-place
invariant-loop-place g l = Sent (g.K.Sink.state l.fn.out) (g.K.Sink.state l.out) (feed_lines 1 (take l.place l.reports))
