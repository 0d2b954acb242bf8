use Rattle.std.proofs.Common.{◌≡◌, length, sym, subst}
use Rattle.road_network.specs.Queries.{limit_or_none}
use Rattle.search_tests.proofs.KnownCostsLemmas.{stands_well}
use Rattle.search_tests.proofs.tests.answers.stand.Goals as goal

pub put_answer-requires-clause-well_found : goal.put_answer-requires-clause-well_found
put_answer-requires-clause-well_found g c =
    let net = c.args.network.now in
    let long = subst (λ d. length (limit_or_none d c.args.form.now.1) ≡ d) (sym c.requires.two) c.requires.limit in
    rw (c.nodes.ensures.count, c.criteria.ensures.count) (stands_well net c.nodes.ensures.network.network 4 c.requires.node (limit_or_none net.criteria c.args.form.now.1) long)
