use Rattle.std.proofs.Common.{ap, sym, ◌∙◌}
use Rattle.std.specs.Prelude.{position}
use Rattle.arc_graph.specs.Stored.{is_zero}
use Rattle.arc_graph.proofs.ZeroLemmas.{zero_known, none_known}
use Rattle.arc_graph.proofs.join.Joiner.zero_arc.Goals as goal

pub returns-in_err-place : goal.returns-in_err-place
returns-in_err-place c = λ files stands sizes.
    rw c.from_residual.ensures (none_known _ files c.self.invariant (rw (← c.self.view_is) at c.requires.some) (rw (← c.self.view_is) at stands) sizes
    (ap (position is_zero) (sym c.deref.ensures.value) ∙ sym c.first_zero.ensures ∙ c.in_err-place.was))

pub returns : goal.returns
returns c = λ files stands sizes.
    zero_known _ files c.in_ok-place.place c.self.invariant (rw (← c.self.view_is) at c.requires.some) (rw (← c.self.view_is) at stands) sizes
    (ap (position is_zero) (sym c.deref.ensures.value) ∙ sym c.first_zero.ensures ∙ c.in_ok-place.was)
