use Rattle.std.proofs.Common.{refl, sym, ◌∙◌}
use Rattle.std.proofs.lemmas.Bool.Decides.{not_from_Decides}
use Rattle.arc_graph.proofs.EndsLemmas.{ends_decide}
use Rattle.arc_graph.proofs.OtherEndsLemmas.{pair_without, pair_earlier}
use Rattle.arc_graph.proofs.JoinerHoldsLemmas.{adds_here}
use Rattle.arc_graph.proofs.join.Joiner.other_ends_with.Goals as goal

pub returns-then-eq : goal.returns-then-eq
returns-then-eq c = λ front last stands.
    let here = rw (← c.self.view_is) at stands in
    let adds = adds_here _ front last c.args.a c.self.inside.ends.items c.index.result.now (rw (← c.self.view_is) at c.requires.later_file) refl
    (rw (← c.self.view_is) at c.requires.there) c.index.ensures here in
    let same = (ends_decide c.ends.result c.index.result.now).0 (sym c.eq.ensures ∙ c.if-eq.true) in
    pair_without _ _ _ _ _ _ adds (λ other. other (sym c.ends.ensures ∙ same)) here.other_ends

pub returns : goal.returns
returns c = λ front last stands.
    let here = rw (← c.self.view_is) at stands in
    let adds = adds_here _ front last c.args.a c.self.inside.ends.items c.index.result.now (rw (← c.self.view_is) at c.requires.later_file) refl
    (rw (← c.self.view_is) at c.requires.there) c.index.ensures here in
    let other = not_from_Decides _ (ends_decide c.ends.result c.index.result.now) (sym c.eq.ensures ∙ c.if-eq.false) in
    pair_earlier _ _ _ _ (record { arc = _; file = _ }) c.earlier.result adds (λ e. other (c.ends.ensures ∙ e)) c.earlier.ensures here.other_ends
