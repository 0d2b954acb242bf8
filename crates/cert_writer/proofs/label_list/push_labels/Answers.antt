use Rattle.std.proofs.Common.{◌+◌, sym, subst}
use Rattle.walk_readback.specs.SettledCosts.{ListsSettled}
use Rattle.cert_writer.specs.Labels.{ListsPairs}
use Rattle.cert_writer.proofs.LabelLemmas.{OfFirst, first_all, first_more, first_none, settled_here}
use Rattle.cert_writer.proofs.label_list.push_labels.Goals as goal

pub loop-cost-init : goal.loop-cost-init
loop-cost-init g c =
    let f = g.F.FoundCosts.state c.args.found.now in
    first_none c.args.network.now f c.args.node.0 c.requires.node.0 c.in_ok-costs.costs.items c.in_ok-costs.ensures c.args.labels.now.items c.requires.lesser

pub label_of-label-requires-clause-whole : goal.label_of-label-requires-clause-whole
label_of-label-requires-clause-whole g c = c.requires.whole

pub label_of-label-requires-clause-settled : goal.label_of-label-requires-clause-settled
label_of-label-requires-clause-settled g c =
    let f = g.F.FoundCosts.state c.args.found.now in let costs = c.deref-cost-items.result.now in
    let of_node = subst (ListsSettled f c.args.node.0) (sym c.deref-cost-items.ensures.value) c.in_ok-costs.ensures in
    settled_here c.args.network.now f c.args.node.0 c.requires.node.0 costs of_node c.loop-cost.cost-index c.cost-item.result c.cost-item.result c.loop-cost-test.true c.cost-item.is

pub loop-cost-preserved : goal.loop-cost-preserved
loop-cost-preserved g c =
    let f = g.F.FoundCosts.state c.args.found.now in let costs = c.deref-cost-items.result.now in let net = c.args.network.now in let node = c.args.node.0 in
    let of_node = subst (ListsSettled f node) (sym c.deref-cost-items.ensures.value) c.in_ok-costs.ensures in
    let l = c.label_of-label.result in
    subst (ListsPairs net f.start (OfFirst net f node c.requires.node.0 costs of_node (c.loop-cost.cost-index + 1))) (sym c.in_ok-push.ensures.items)
    (first_more net f node c.requires.node.0 costs of_node c.loop-cost.cost-index c.cost-item.result c.cost-item.result c.loop-cost-test.true c.cost-item.is
    l c.loop-cost.labels.items c.label_of-label.ensures.node c.label_of-label.ensures.cost c.label_of-label.ensures.least c.loop-cost.invariant)

pub returns : goal.returns
returns g c =
    let f = g.F.FoundCosts.state c.args.found.now in let costs = c.deref-cost-items.result.now in
    let of_node = subst (ListsSettled f c.args.node.0) (sym c.deref-cost-items.ensures.value) c.in_ok-costs.ensures in
    first_all c.args.network.now f c.args.node.0 c.requires.node.0 costs of_node c.loop-cost.cost-index c.loop-cost.labels.items c.loop-cost-test.false c.loop-cost.invariant
