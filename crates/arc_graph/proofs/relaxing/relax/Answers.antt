use Rattle.std.proofs.lemmas.List.{get_or_default}
use Rattle.arc_graph.proofs.NumbersLemmas.{number_within}
use Rattle.arc_graph.proofs.RelaxLaws.{fits_along}
use Rattle.arc_graph.proofs.relaxing.relax.Goals as goal

pub label_along-requires-clause-counted : goal.label_along-requires-clause-counted
label_along-requires-clause-counted c =
    (number_within c.args.network.now.ends c.args.spot.now.node.0 _ c.loop-arc.arc-index _ c.out_arcs-arcs.ensures c.loop-arc-test.true
    (get_or_default _ c.loop-arc.arc-index _ _ c.loop-arc-test.true)).0

pub label_along-requires-clause-there : goal.label_along-requires-clause-there
label_along-requires-clause-there c =
    (number_within c.args.network.now.ends c.args.spot.now.node.0 _ c.loop-arc.arc-index _ c.out_arcs-arcs.ensures c.loop-arc-test.true
    (get_or_default _ c.loop-arc.arc-index _ _ c.loop-arc-test.true)).1

pub label_along-requires-clause-fits : goal.label_along-requires-clause-fits
label_along-requires-clause-fits c =
    fits_along c.args.network.now c.args.spot.now.node.0 c.args.spot.now.cost _ c.loop-arc.arc-index _ c.requires.fits c.out_arcs-arcs.ensures
    c.loop-arc-test.true
