use Rattle.std.proofs.Common.{◌+◌, ◌*◌, List, min}
use Rattle.road_network.specs.Answers.{Route}
use Rattle.answer_writer.specs.Routes.{AreRoutes}
use Rattle.session_core.specs.Windows.{piece_size}
use Rattle.session_core.proofs.WindowLemmas.{SentLines}
use Rattle.session_core.proofs.window.Window.send_texts.Given as goal

-- the lines of the first pieces were sent
abbrev pub invariant-loop-made : goal.invariant-loop-made
invariant-loop-made g l = (routes : List Route) → AreRoutes l.self.network.now (g.F.FoundCosts.state l.self.found.now) routes
    → SentLines l.self.kind routes (g.K.Sink.state l.fn.out) (g.K.Sink.state l.out) l.self.from (min l.self.to (l.self.from + l.made-index * piece_size))
