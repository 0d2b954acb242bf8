use Rattle.std.proofs.Common.{arith}
use Rattle.arc_graph.proofs.InArcsLemmas.{arc_at, each_is_there}
use Rattle.walk_readback.proofs.GoingBackLaws.{count_of, node_of, none_below, none_more}
use Rattle.walk_readback.proofs.readback.step_back.Goals as goal

pub in_arcs-arcs-requires : goal.in_arcs-arcs-requires
in_arcs-arcs-requires g c = node_of c.requires.readable

pub loop-arc-init : goal.loop-arc-init
loop-arc-init g c = λ k back. (rw c.in_arcs-arcs.ensures (each_is_there _ k _ _ _ back.leads), omega arith)

pub cost_before-requires : goal.cost_before-requires
cost_before-requires g c =
    let at = arc_at c.args.network.now.ends c.args.node.0 _ _ (record { 0 = 0 }) c.in_arcs-arcs.ensures c.loop-arc-test.true in
    let is = c.requires.readable in
    record { counted = at.counted; there = at.there; count = count_of is; readable = rw at.head is; nodes = c.requires.nodes; criteria = c.requires.criteria }

pub returns-in-Some-clause-some : goal.returns-in-Some-clause-some
returns-in-Some-clause-some g c =
    let into = arc_at c.args.network.now.ends c.args.node.0 _ _ (record { 0 = 0 }) c.in_arcs-arcs.ensures c.loop-arc-test.true in
    let (back, same) = rw into.head at c.in-Some.ensures.some in
    (record { holds = back; none_below = none_below _ _ _ _ c.loop-arc-test.true c.loop-arc.invariant c.args.network.now.ends _ c.in_arcs-arcs.ensures }, same)

pub loop-arc-preserved : goal.loop-arc-preserved
loop-arc-preserved g c =
    let into = arc_at c.args.network.now.ends c.args.node.0 _ _ (record { 0 = 0 }) c.in_arcs-arcs.ensures c.loop-arc-test.true in
    none_more _ _ _ _ c.loop-arc-test.true c.loop-arc.invariant (λ back. c.cost_before.ensures.none c.in_default.is (rw into.head back))

pub returns-clause-none : goal.returns-clause-none
returns-clause-none g c = λ none k back. let at = c.loop-arc.invariant k back in omega (arith, at, c.loop-arc-test.false)
