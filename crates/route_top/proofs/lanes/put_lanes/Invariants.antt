use Rattle.std.proofs.Common.{map}
use Rattle.route_top.proofs.LanesSent.{numbers, part_of}
use Rattle.route_top.proofs.SentFirst.{SentFirst}
use Rattle.route_top.proofs.lanes.put_lanes.Given as goal

-- the lanes so far were sent
abbrev pub invariant-loop-place : goal.invariant-loop-place
invariant-loop-place g l =
    SentFirst (part_of l.first (map (λ link. link.to.sent) l.links)) (numbers (map (λ link. link.to.sent) l.links)) l.place (g.K.Sink.state l.fn.out)
    (g.K.Sink.state l.out)
