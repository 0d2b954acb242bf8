use Rattle.arc_graph.proofs.InArcsLemmas.{arc_at}
use Rattle.goal_bounds.proofs.GoingLemmas.{among_all, among_more, among_none}
use Rattle.goal_bounds.proofs.reverse.ReverseSearch.expand.Goals as goal

pub loop-arc-init : goal.loop-arc-init
loop-arc-init c = among_none c.args.network.now c.args.node.0 c.args.value c.in_arcs-arc-items.result.now c.args.self.now

pub go_back-requires-clause-counted : goal.go_back-requires-clause-counted
go_back-requires-clause-counted c =
    (arc_at c.args.network.now.ends c.args.node.0 c.in_arcs-arc-items.result.now c.loop-arc.arc-index (record { 0 = 0 }) c.in_arcs-arc-items.ensures
    c.loop-arc-test.true).counted

pub go_back-requires-clause-there : goal.go_back-requires-clause-there
go_back-requires-clause-there c =
    (arc_at c.args.network.now.ends c.args.node.0 c.in_arcs-arc-items.result.now c.loop-arc.arc-index (record { 0 = 0 }) c.in_arcs-arc-items.ensures
    c.loop-arc-test.true).there

pub loop-arc-preserved : goal.loop-arc-preserved
loop-arc-preserved c =
    let net = c.args.network.now in let arcs = c.in_arcs-arc-items.result.now in let i = c.loop-arc.arc-index in
    let head = (arc_at net.ends c.args.node.0 arcs i (record { 0 = 0 }) c.in_arcs-arc-items.ensures c.loop-arc-test.true).head in
    among_more net c.args.node.0 c.args.value arcs i c.args.self.now c.loop-arc.self c.go_back.new.self c.loop-arc.invariant
    (rw head at (c.in_ok-go_back.ensures))

pub returns : goal.returns
returns c =
    among_all c.args.network.now c.args.node.0 c.args.value c.in_arcs-arc-items.result.now c.loop-arc.arc-index c.args.self.now c.loop-arc.self
    c.in_arcs-arc-items.ensures c.loop-arc-test.false c.loop-arc.invariant
