use Rattle.arc_graph.proofs.JoinerHoldsLemmas.{size_whole}
use Rattle.arc_graph.proofs.FaultLemmas.{fault_is_least}
use Rattle.arc_graph.proofs.join.Joiner.fault.Goals as goal

pub returns-in-Some : goal.returns-in-Some
returns-in-Some c = λ files stands.
    rw c.in-Some.is at (size_whole _ files (rw (← c.self.view_is) at c.requires.whole) (rw (← c.self.view_is) at stands))

pub returns : goal.returns
returns c = λ files stands.
    let here = rw (← c.self.view_is) at stands in
    let sizes = rw c.in_default.is at (size_whole _ files (rw (← c.self.view_is) at c.requires.whole) here) in
    rw c.arc_fault.ensures (fault_is_least files c.self.inside.other_ends c.zero_arc.result sizes here.other_ends (c.zero_arc.ensures files stands sizes))
