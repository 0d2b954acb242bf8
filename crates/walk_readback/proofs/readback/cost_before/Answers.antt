use Rattle.std.proofs.Common.{refl, sym}
use Rattle.road_network.proofs.WalkLaws.{leads_from_node}
use Rattle.walk_readback.proofs.GoingBackLaws.{back_if_covered, settled_if_back, fits_if_back, leads_by_state, left_below_settled}
use Rattle.walk_readback.proofs.readback.cost_before.Goals as goal

pub returns-in_err-before-clause-none : goal.returns-in_err-before-clause-none
returns-in_err-before-clause-none g c = λ none back.
    let fits = fits_if_back c.requires.readable c.requires.counted c.requires.there (sym c.in_ok-by.ensures.state) back in
    let some = c.in_err-before.ensures.fits.1 fits in absurd cc

pub has-requires-clause-node : goal.has-requires-clause-node
has-requires-clause-node g c =
    let leads = leads_by_state c.requires.readable c.requires.counted c.requires.there (sym c.in_ok-by.ensures.state) in
    rw (c.tail.ensures, c.requires.nodes) (leads_from_node _ c.requires.readable.network _ _ _ _ leads)

pub has-requires-clause-below : goal.has-requires-clause-below
has-requires-clause-below g c =
    left_below_settled c.requires.readable c.requires.counted c.requires.there (sym c.in_ok-by.ensures.state)
    _ c.in_ok-before.ensures.same_count c.in_ok-before.ensures.difference

pub returns-then-not-has-clause-none : goal.returns-then-not-has-clause-none
returns-then-not-has-clause-none g c = λ none back.
    let settled = settled_if_back c.requires.readable c.requires.counted c.requires.there (sym c.in_ok-by.ensures.state)
    _ c.in_ok-before.ensures.same_count c.in_ok-before.ensures.difference back in
    let yes = c.if-not-has.ensures.settled (rw c.tail.ensures settled) in absurd cc

pub returns-clause-some : goal.returns-clause-some
returns-clause-some g c =
    back_if_covered c.requires.readable c.requires.counted c.requires.there (sym c.in_ok-by.ensures.state)
    _ c.in_ok-before.ensures.same_count c.in_ok-before.ensures.difference (rw c.tail.ensures at (c.if-not-has.ensures.covered refl))
