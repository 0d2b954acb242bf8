use Rattle.std.proofs.Common.{map, ap, sym, subst, ◌∙◌}
use Rattle.found_fronts.proofs.FoundLemmas.{if_ok_then, lists_settled}
use Rattle.walk_readback.specs.SettledCosts.{ListsSettled}
use Rattle.found_fronts.proofs.found.FoundFrontsSettledCosts.costs_of.Goals as goal

pub returns : goal.returns
returns g c =
    let f = c.self.inside in
    let lists = lists_settled g.row.D 0 f.start.0 f.target.0 (map (λ x. x.0) f.costs.items) f.fronts c.args.node.0 (map (λ x. x.0) c.in_ok-list.list.items) c.in_ok-list.ensures in
    rw (← c.self.view_is) (if_ok_then c.to_costs.result c.to_costs.ensures (λ costs same.
    subst (ListsSettled _ c.args.node.0) (sym (same ∙ ap (map (λ x. x.0)) c.deref.ensures.value)) lists))
