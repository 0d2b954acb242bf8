use Rattle.list_laws.proofs.Least.{least_without, least_or}
use Rattle.arc_graph.proofs.JoinerHoldsLemmas.{adds_file}
use Rattle.arc_graph.proofs.join.Joiner.other_size_with.Goals as goal

pub returns-then-is_size : goal.returns-then-is_size
returns-then-is_size c = λ files stands.
    let here = rw (← c.self.view_is) at stands in
    let adds = adds_file _ files c.args.nodes c.args.arcs (rw (← c.self.view_is) at c.requires.begun) (rw (← c.self.view_is) at c.requires.whole) here in
    least_without _ _ _ _ _ adds (λ other. other ((rw (← c.self.view_is) at c.is_size.ensures).0 c.if-is_size.true)) here.other_size

pub returns : goal.returns
returns c = λ files stands.
    let here = rw (← c.self.view_is) at stands in
    let adds = adds_file _ files c.args.nodes c.args.arcs (rw (← c.self.view_is) at c.requires.begun) (rw (← c.self.view_is) at c.requires.whole) here in
    rw c.or.ensures (least_or _ _ _ _ _ adds (λ same. let t = (rw (← c.self.view_is) at c.is_size.ensures).1 same in cc) here.other_size)
