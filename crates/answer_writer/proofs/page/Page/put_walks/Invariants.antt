use Rattle.std.proofs.Common.{◌-◌, ◌≤◌, List}
use Rattle.std.specs.List.{between}
use Rattle.road_network.specs.Answers.{Route}
use Rattle.answer_writer.specs.Replies.{walk_line}
use Rattle.answer_writer.specs.Routes.{AreRoutes}
use Rattle.answer_writer.proofs.GathersLemmas.{HoldsFirst}
use Rattle.answer_writer.proofs.page.Page.put_walks.Given as goal

-- the lines of the first routes at these places were gathered
abbrev pub invariant-loop-i : goal.invariant-loop-i
invariant-loop-i g l = (l.fn.room.holds ≤ l.room.holds) × ((routes : List Route)
    → AreRoutes l.network (g.F.FoundCosts.state l.found) routes
    → HoldsFirst walk_line (between l.fn.places.start l.fn.places.end routes) (g.K.Sink.state l.fn.sink) (g.K.Sink.state l.sink)
    l.fn.self (l.i - l.fn.places.start) l.self)
