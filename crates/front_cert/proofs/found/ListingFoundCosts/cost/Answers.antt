use Rattle.std.proofs.Common.{◌==◌, ap, ◌∙◌}
use Rattle.std.specs.List.{filter}
use Rattle.front_cert.proofs.FoundLemmas.{cost_there, is_found, listed_ascend, within_costs}
use Rattle.front_cert.proofs.found.ListingFoundCosts.cost.Goals as goal

pub cost_at-requires : goal.cost_at-requires
cost_at-requires c =
    let l = c.self.inside in
    within_costs l.labels.items l.target.0 c.labels_of.result.now (c.labels_of.ensures ∙ ap (filter (λ x. x.node.0 == l.target.0)) c.deref.ensures.value) c.args.i
    (rw (← c.self.view_is) at c.requires)

pub returns-clause-found : goal.returns-clause-found
returns-clause-found c =
    let l = c.self.inside in
    rw (← c.self.view_is) (is_found _ c.self.invariant.0 (listed_ascend l.labels.items c.self.invariant.1.ascending))

pub returns-clause-value : goal.returns-clause-value
returns-clause-value c =
    let l = c.self.inside in
    rw (← c.self.view_is) (cost_there l.labels.items l.target.0 c.labels_of.result.now
    (c.labels_of.ensures ∙ ap (filter (λ x. x.node.0 == l.target.0)) c.deref.ensures.value) c.args.i c.cost_at.result c.cost_at.ensures)
