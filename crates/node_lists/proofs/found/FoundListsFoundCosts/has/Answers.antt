use Rattle.walk_readback.proofs.GoingBackLaws.{settled_is_covered}
use Rattle.node_lists.proofs.FoundLemmas.{fits_below, settled_alike}
use Rattle.node_lists.proofs.found.FoundListsFoundCosts.has.Goals as goal

pub of-requires-clause-fits : goal.of-requires-clause-fits
of-requires-clause-fits g c =
    let below = rw (← c.self.view_is) at c.requires.below in
    rw (c.of-cost.ensures) (fits_below c.self.invariant c.args.cost.now below)

pub returns : goal.returns
returns g c =
    let told = rw (c.list.ensures, c.of.ensures, c.of-cost.ensures, ← c.self.view_is) at c.has.ensures in
    let alike = settled_alike c.self.invariant c.args.node.0 c.args.cost.now in
    rw (← c.self.view_is) (record { settled = λ there. told.1 (alike.0 there); covered = λ yes. settled_is_covered _ _ _ (alike.1 (told.0 yes)) })
