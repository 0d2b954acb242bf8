use Rattle.std.proofs.Common.{subst}
use Rattle.arc_graph.specs.Graph.{AreWeights}
use Rattle.arc_graph.proofs.Places.{states_in}
use Rattle.arc_graph.proofs.weights.Weights.arcs.Goals as goal

pub returns-clause-states : goal.returns-clause-states
returns-clause-states c = subst AreWeights c.self.view_is (states_in _ _ c.self.invariant)
