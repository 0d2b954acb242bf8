use Rattle.list_laws.proofs.OnceLaws.{alike_through}
use Rattle.walk_readback.proofs.GoingBackLaws.{settled_is_covered}
use Rattle.found_fronts.proofs.FoundLemmas.{covered_alike, fits_below}
use Rattle.found_fronts.proofs.found.FoundFrontsFoundCosts.has.Goals as goal

pub of-requires-clause-fits : goal.of-requires-clause-fits
of-requires-clause-fits g c =
    let below = rw (← c.self.view_is) at c.requires.below in
    rw (c.of-cost.ensures) (fits_below g.row.D _ _ _ _ c.self.inside.fronts c.costs_are_stored.ensures c.args.cost.now below)

pub returns : goal.returns
returns g c =
    let alike = alike_through (rw (c.of.ensures, c.of-cost.ensures) at c.covers.ensures)
    (covered_alike g.row.D 0 c.self.inside.start.0 c.self.inside.target.0 _ c.self.inside.fronts c.args.node.0 c.args.cost.now) in
    rw (← c.self.view_is) (record { settled = λ there. alike.1 (settled_is_covered _ _ _ there); covered = alike.0 })
