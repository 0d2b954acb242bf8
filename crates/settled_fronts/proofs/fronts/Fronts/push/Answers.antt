use Rattle.std.proofs.Common.{◌∙◌, rules}
use Rattle.settled_fronts.proofs.PlacedLemmas.{changed, stored_after}
use Rattle.settled_fronts.proofs.fronts.Fronts.push.Goals as goal

pub invariant_of-self-2 : goal.invariant_of-self-2
invariant_of-self-2 g c =
    let at = c.in_ok-place.ensures in
    let (old, _, _, kept) = changed g.F.SettledFront.costs c.reach.new.fronts.items c.push.new.self
    at.kept (at.same ∙ c.self.view_is) (search rules) at.place at.reached c.index_mut.ensures.value in
    kept (stored_after _ _ _ _ c.push.result (rw old at c.requires.uncovered) c.to_compact-read.ensures.fits c.push.ensures.pushed c.push.ensures.same)

pub returns : goal.returns
returns g c =
    let at = c.in_ok-place.ensures in
    let (old, new, elsewhere, _) = changed g.F.SettledFront.costs c.reach.new.fronts.items c.push.new.self
    at.kept (at.same ∙ c.self.view_is) (search rules) at.place at.reached c.index_mut.ensures.value in
    rw (old, new) (record { elsewhere = elsewhere; pushed = c.push.ensures.pushed; same = c.push.ensures.same })
