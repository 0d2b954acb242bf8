use Rattle.std.proofs.Common.{length, ap, sym, ◌∙◌, ◌==◌}
use Rattle.std.specs.List.{filter}
use Rattle.std.proofs.lemmas.List.{length-map}
use Rattle.front_cert.proofs.FoundLemmas.{costs_are, is_found, listed_ascend}
use Rattle.front_cert.proofs.found.ListingFoundCosts.count.Goals as goal

pub returns-clause-found : goal.returns-clause-found
returns-clause-found c =
    let l = c.self.inside in
    rw (← c.self.view_is) (is_found _ c.self.invariant.0 (listed_ascend l.labels.items c.self.invariant.1.ascending))

pub returns-clause-value : goal.returns-clause-value
returns-clause-value c =
    let l = c.self.inside in
    rw (← c.self.view_is) (ap length c.labels_of.ensures ∙ ap (λ xs. length (filter (λ x. x.node.0 == l.target.0) xs)) c.deref.ensures.value
    ∙ sym (length-map (filter (λ x. x.node.0 == l.target.0) l.labels.items) (λ x. x.cost)) ∙ ap length (sym (costs_are l.labels.items l.target.0)))
