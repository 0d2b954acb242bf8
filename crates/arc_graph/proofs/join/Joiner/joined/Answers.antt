use Rattle.std.proofs.Common.{ap, arith}
use Rattle.arc_graph.specs.Inside.{joiner_of}
use Rattle.arc_graph.specs.Joiner.{Joiner}
use Rattle.arc_graph.proofs.JoinedLemmas.{is_network}
use Rattle.arc_graph.proofs.join.Joiner.joined.Goals as goal

pub returns-clause-is_network : goal.returns-clause-is_network
returns-clause-is_network c =
    rw (c.in_ok-graph.ensures, c.of_places.ensures)
    (is_network (joiner_of c.self.inside) c.self.invariant (omega (arith, c.requires, ap (λ (j : Joiner). j.begun) c.self.view_is)))
