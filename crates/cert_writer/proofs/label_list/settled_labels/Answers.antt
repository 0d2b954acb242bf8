use Rattle.std.proofs.Common.{◌≡◌, ◌≤◌, ◌+◌, ◌-◌, arith, sym, subst}
use Rattle.cert_writer.specs.Labels.{ListsUpTo}
use Rattle.cert_writer.proofs.LabelLemmas.{up_to_all, up_to_none}
use Rattle.cert_writer.proofs.label_list.settled_labels.Goals as goal

pub loop-lesser-init : goal.loop-lesser-init
loop-lesser-init g c =
    let net = c.args.network.now in let f = g.F.FoundCosts.state c.args.found.now in
    subst (ListsUpTo net f 0) (sym c.in_ok-labels.ensures.items) (up_to_none net c.nodes-lesser-end.ensures.network.network f c.requires.whole)

pub push_labels-requires-clause-whole : goal.push_labels-requires-clause-whole
push_labels-requires-clause-whole g c = c.requires.whole

pub push_labels-requires-clause-node : goal.push_labels-requires-clause-node
push_labels-requires-clause-node g c = (omega arith, omega (arith, c.loop-lesser-test.true, c.nodes-lesser-end.ensures.count))

pub push_labels-requires-clause-lesser : goal.push_labels-requires-clause-lesser
push_labels-requires-clause-lesser g c =
    let net = c.args.network.now in let f = g.F.FoundCosts.state c.args.found.now in
    let same : c.loop-lesser.lesser ≡ c.loop-lesser.lesser + 1 - 1 = omega arith in
    subst (λ n. ListsUpTo net f n c.loop-lesser.labels.items) same c.loop-lesser.invariant

pub loop-lesser-preserved : goal.loop-lesser-preserved
loop-lesser-preserved g c = c.in_ok-push_labels.ensures

pub returns : goal.returns
returns g c =
    let net = c.args.network.now in let f = g.F.FoundCosts.state c.args.found.now in
    let all : net.nodes ≤ c.loop-lesser.lesser = omega (arith, c.loop-lesser-test.false, c.nodes-lesser-end.ensures.count) in
    up_to_all net c.nodes-lesser-end.ensures.network.network f c.requires.whole c.loop-lesser.lesser c.loop-lesser.labels.items all c.loop-lesser.invariant
