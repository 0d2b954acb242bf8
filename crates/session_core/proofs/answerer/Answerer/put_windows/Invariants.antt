use Rattle.std.proofs.Common.{◌-◌, ◌≤◌, List}
use Rattle.road_network.specs.Answers.{Route}
use Rattle.answer_writer.specs.Routes.{AreRoutes}
use Rattle.session_core.proofs.WindowLemmas.{SentLines}
use Rattle.session_core.proofs.answerer.Answerer.put_windows.Given as goal

-- the lines of the first windows were sent, and the room still holds the longest walk
abbrev pub invariant-windows : goal.invariant-windows
invariant-windows g l = record {
  within : l.from ≤ l.count;
  room : l.fn.room.holds ≤ l.room.holds;
  lines : (routes : List Route) → AreRoutes l.self.network.now (g.F.FoundCosts.state l.found) routes
      → SentLines l.kind routes (g.K.Sink.state l.fn.out) (g.K.Sink.state l.out) 0 l.from;
}

abbrev pub decreases-windows : goal.decreases-windows
decreases-windows g l = l.count - l.from
