use Rattle.std.proofs.Common.{ap, arith, length, map}
use Rattle.std.proofs.lemmas.List.{length-map}
use Rattle.cost_vector.specs.Costs.{no_limit}
use Rattle.cost_vector.specs.declared.label.ArcNo.{ArcNo}
use Rattle.still_commands.proofs.CountLemmas.{all_counted, count_of_costs, none_counted, one_counted, short_walk}
use Rattle.still_commands.proofs.counting.Counter.count_routes.Goals as goal

pub loop-i-init : goal.loop-i-init
loop-i-init g c = record {
  room = omega (arith, c.longest.ensures, c.in_ok-make_room.ensures);
  counted = none_counted _ _ c.args.counts.now c.requires.fits.sums;
}

pub loop-i-preserved : goal.loop-i-preserved
loop-i-preserved g c = record {
  room = omega (arith, c.loop-i.invariant.room, c.walk.ensures.room);
  counted = one_counted c.args.self.now.network.now (g.F.FoundCosts.state c.args.found.now) c.args.counts.now c.loop-i.i
      c.cost.result (map (λ a. a.0) c.walk.new.room.arcs) c.cost.ensures.value c.walk.ensures.least c.loop-i.counts c.count_route.new.self
      c.loop-i.invariant.counted (rw c.arcs.ensures at c.count_route.ensures.counted) c.count_route.ensures.sums;
}

pub count_route-requires-clause-costs : goal.count_route-requires-clause-costs
count_route-requires-clause-costs g c =
    let come = count_of_costs c.args.self.now.network.now (g.F.FoundCosts.state c.args.found.now) c.args.counts.now c.loop-i.i
    c.loop-i.counts (omega (arith, c.loop-i-test.true, c.count-i-end.ensures.value)) c.loop-i.invariant.counted in
    omega (arith, come, c.requires.few c.count-i-end.ensures.found, c.requires.fits.costs, c.requires.pairs, c.loop-i-test.true, c.count-i-end.ensures.value)

pub count_route-requires-clause-cost : goal.count_route-requires-clause-cost
count_route-requires-clause-cost g c =
    (short_walk c.args.self.now.network.now (g.F.FoundCosts.state c.args.found.now) c.args.counts.now c.loop-i.i
    c.cost.result (map (λ a. a.0) c.walk.new.room.arcs) c.cost.ensures.value c.walk.ensures.least (no_limit c.args.self.now.network.now.criteria)
    c.nodes.ensures.network.network c.cost.ensures.found c.requires.small c.requires.answer.nodes c.requires.answer.well_found).1

pub count_route-requires-clause-arcs : goal.count_route-requires-clause-arcs
count_route-requires-clause-arcs g c =
    let short = short_walk c.args.self.now.network.now (g.F.FoundCosts.state c.args.found.now) c.args.counts.now c.loop-i.i
    c.cost.result (map (λ a. a.0) c.walk.new.room.arcs) c.cost.ensures.value c.walk.ensures.least (no_limit c.args.self.now.network.now.criteria)
    c.nodes.ensures.network.network c.cost.ensures.found c.requires.small c.requires.answer.nodes c.requires.answer.well_found in
    omega (arith, short.0, length-map c.walk.new.room.arcs (λ (a : ArcNo). a.0), ap length c.arcs.ensures)

pub returns-clause-counts : goal.returns-clause-counts
returns-clause-counts g c =
    all_counted c.args.self.now.network.now c.args.query.now (g.F.FoundCosts.state c.args.found.now) c.loop-i.i c.args.counts.now
    c.loop-i.counts c.requires.answer c.count-i-end.ensures.found (omega (arith, c.loop-i-test.false, c.count-i-end.ensures.value))
    c.loop-i.invariant.counted
