use Rattle.std.proofs.Common.{rules}
use Rattle.sweep_search.proofs.FindingLemmas.{are_lifted, has_all_bare, on_both}
use Rattle.sweep_search.proofs.width.SweptAtWidth.lower.Goals as goal

pub lower_all-requires : goal.lower_all-requires
lower_all-requires g c =
    let all = rw c.in-Narrow.is at c.requires.all in
    (search rules, (all.of_query.criteria, (c.requires.query.to, (c.requires.tells, (all.settles.count, are_lifted all)))))

pub returns-in-Narrow : goal.returns-in-Narrow
returns-in-Narrow g c =
    let net = c.args.network.now in let query = c.args.query.now in let road = c.nodes.ensures.network in
    let all = rw c.in-Narrow.is at c.requires.all in
    let is = g.met.P.Potential.consistent net query.to road c.requires.query.to in
    let after = c.lower_all.new.found in
    on_both _ _ _ (has_all_bare net query road.network (g.P.Potential.height net query.to) is c.in-Narrow.found after all) c.lower_all.result c.lower_all.ensures.same
    c.lower_all.ensures.bare

pub lower_all-requires-in-Wide : goal.lower_all-requires-in-Wide
lower_all-requires-in-Wide g c =
    let all = rw c.in-Wide.is at c.requires.all in
    (search rules, (all.of_query.criteria, (c.requires.query.to, (c.requires.tells, (all.settles.count, are_lifted all)))))

pub returns-in-Wide : goal.returns-in-Wide
returns-in-Wide g c =
    let net = c.args.network.now in let query = c.args.query.now in let road = c.nodes.ensures.network in
    let all = rw c.in-Wide.is at c.requires.all in
    let is = g.met.P.Potential.consistent net query.to road c.requires.query.to in
    let after = c.lower_all-in-Wide.new.found in
    on_both _ _ _ (has_all_bare net query road.network (g.P.Potential.height net query.to) is c.in-Wide.found after all) c.lower_all-in-Wide.result c.lower_all-in-Wide.ensures.same
    c.lower_all-in-Wide.ensures.bare
