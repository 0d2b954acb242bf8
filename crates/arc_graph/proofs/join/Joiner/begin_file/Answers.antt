use Rattle.std.proofs.Common.{arith}
use Rattle.arc_graph.proofs.JoinerHoldsLemmas.{begin_first, begin_later}
use Rattle.arc_graph.proofs.join.Joiner.begin_file.Goals as goal
use Rattle.arc_graph.proofs.join.Joiner.begin_file.Goals.{then-self-eq0+in_ok-reserve+in_ok-reserve-2, else-self-eq0}

pub returns-clause-files : goal.returns-clause-files
returns-clause-files c = λ files stands.
    let here = rw (← c.self.view_is) at stands in
    elim c.if-self-eq0.branch [
      | then-self-eq0+in_ok-reserve+in_ok-reserve-2 w ↦
          rw (w.self-inside-is, w.in_ok-reserve.ensures.items, w.in_ok-reserve-2.ensures.items)
          (begin_first _ files c.args.nodes c.args.arcs c.self.invariant w.if-self-eq0.true here)
      | else-self-eq0 w ↦
          rw w.self-inside-is
          (begin_later _ files c.args.nodes c.args.arcs w.other_size_with-self-inside.result c.self.invariant (omega (arith, w.if-self-eq0.false))
          (rw (← c.self.view_is) at c.requires.fewer_than_four) here (w.other_size_with-self-inside.ensures files stands))
    ]
