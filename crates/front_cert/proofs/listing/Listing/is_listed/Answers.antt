use Rattle.std.proofs.Common.{sym, ◌∙◌}
use Rattle.front_cert.proofs.RuleLemmas.{finds_listed}
use Rattle.front_cert.proofs.listing.Listing.is_listed.Goals as goal

pub returns : goal.returns
returns c =
    let finds = finds_listed c.args.self.now.cert.labels c.args.node.0 c.args.cost.now c.find_near-found.result c.find_near-found.ensures in
    (λ e. finds.0 (sym c.is_some.ensures ∙ e), λ listed. c.is_some.ensures ∙ finds.1 listed)
