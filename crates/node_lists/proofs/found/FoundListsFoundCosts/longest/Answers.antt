use Rattle.std.proofs.Common.{◌≡◌, ◌-◌, length, min, ◌∙◌, rules}
use Rattle.node_lists.proofs.FoundLemmas.{longest_is}
use Rattle.node_lists.proofs.found.FoundListsFoundCosts.longest.Goals as goal

pub returns : goal.returns
returns g c =
    let least : c.saturating_sub.result ≡ min (length c.self.inside.places.items - 1) c.self.inside.count - 1 = search rules in
    rw (← c.self.view_is) (least ∙ longest_is c.self.invariant)
