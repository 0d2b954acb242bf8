use Rattle.std.proofs.Common.{sym, ◌∙◌}
use Rattle.walk_readback.proofs.GoingBackLaws.{settled_is_covered}
use Rattle.front_cert.proofs.FoundLemmas.{listed_if, settled_alike, some_if_listed}
use Rattle.front_cert.proofs.found.ListingFoundCosts.has.Goals as goal

pub returns : goal.returns
returns c =
    let l = c.args.self.now in let v = c.args.node.0 in let cost = c.args.cost.now in
    let alike = settled_alike l.cert.labels v cost in record {
      settled = λ there. c.is_some.ensures ∙ some_if_listed l.cert.labels v cost c.find.result c.find.ensures (alike.0 there);
      covered = λ holds. settled_is_covered _ v cost (alike.1 (listed_if l.cert.labels v cost c.find.result c.find.ensures (sym c.is_some.ensures ∙ holds)));
    }
