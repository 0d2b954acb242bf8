use Rattle.std.proofs.lemmas.List.{map_push}
use Rattle.arc_graph.proofs.JoinerHoldsLemmas.{arc_first}
use Rattle.arc_graph.proofs.join.Joiner.push_first.Goals as goal

pub returns-clause-files : goal.returns-clause-files
returns-clause-files c = λ front last stands.
    rw (c.in_ok-push.ensures.items, c.push_reserved.ensures.items, c.in_ok-reserve.ensures.items, map_push, c.ends.ensures)
    (arc_first _ front last c.args.a c.self.invariant (rw (← c.self.view_is) at c.requires.begun) (rw (← c.self.view_is) at stands))
