use Rattle.std.proofs.Common.{arith, subst, ◌∙◌}
use Rattle.arc_graph.specs.Joiner.{IsJoiner}
use Rattle.arc_graph.proofs.JoinedLemmas.{network_joined}
use Rattle.arc_graph.proofs.join.Joiner.finish.Goals as goal

pub returns-in_ok-joined-in-None-clause-joined : goal.returns-in_ok-joined-in-None-clause-joined
returns-in_ok-joined-in-None-clause-joined c = λ files stands.
    let kept = subst IsJoiner c.self.view_is c.self.invariant in
    c.in_ok-joined-in-None.ensures.network ∙ network_joined c.args.self files kept (omega (arith, c.requires.two)) stands (c.in-None.ensures files stands)
