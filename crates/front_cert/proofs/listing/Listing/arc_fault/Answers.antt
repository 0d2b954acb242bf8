use Rattle.std.proofs.Common.{◌⊎◌, length, Some, None, refl, sym, ap, subst₂, ◌∙◌, arith}
use Rattle.cost_vector.proofs.Vectors.{length-plus}
use Rattle.cert_rules.specs.Certificates.{IsBeaten}
use Rattle.front_cert.specs.Listing.{line_of}
use Rattle.front_cert.proofs.ArcLemmas.{of_out_arcs}
use Rattle.front_cert.proofs.RuleLemmas.{Finds, beaten_back, sum_fits, tells_later, tells_listed, tells_beaten, tells_astray, tells_needless}
use Rattle.front_cert.proofs.listing.Listing.arc_fault.Goals as goal

pub weight-requires-clause-counted : goal.weight-requires-clause-counted
weight-requires-clause-counted c = (of_out_arcs c.args.network.now c.args.label.now.node.0 c.args.arc c.requires.leads).0

pub weight-requires-clause-there : goal.weight-requires-clause-there
weight-requires-clause-there c = (of_out_arcs c.args.network.now c.args.label.now.node.0 c.args.arc c.requires.leads).1

pub plus-sum-requires-clause-no_wrap : goal.plus-sum-requires-clause-no_wrap
plus-sum-requires-clause-no_wrap c = sum_fits c.args.label.now.cost c.in_ok-weight.weight c.requires.line.small c.in_ok-weight.ensures.small

pub head-head-requires-clause-counted : goal.head-head-requires-clause-counted
head-head-requires-clause-counted c = (of_out_arcs c.args.network.now c.args.label.now.node.0 c.args.arc c.requires.leads).0

pub head-head-requires-clause-there : goal.head-head-requires-clause-there
head-head-requires-clause-there c = (of_out_arcs c.args.network.now c.args.label.now.node.0 c.args.arc c.requires.leads).1

pub is_useless-requires-clause-known : goal.is_useless-requires-clause-known
is_useless-requires-clause-known c = c.look_near-found.ensures.beaten c.in-None.is

pub is_useless-requires-clause-whole : goal.is_useless-requires-clause-whole
is_useless-requires-clause-whole c =
    ap length c.plus-sum.ensures
    ∙ length-plus c.args.label.now.cost c.in_ok-weight.weight (c.requires.line.cost ∙ sym c.in_ok-weight.ensures.vector.whole)
    ∙ c.requires.line.cost ∙ sym c.requires.of.criteria

pub returns-then-comes_from : goal.returns-then-comes_from
returns-then-comes_from c =
    let out = of_out_arcs c.args.network.now c.args.label.now.node.0 c.args.arc c.requires.leads in
    let net = c.args.network.now in let cert = c.args.self.now.cert in let l = line_of c.args.label.now in let w = c.in_ok-weight.weight in
    let state = sym c.weight.ensures.state ∙ c.in_ok-weight.was in
    tells_needless net cert l c.args.arc w out.0 out.1 out.2 state (c.is_unbeaten.ensures c.if-is_unbeaten.true)
    (beaten_back net cert l c.args.arc w out.0 out.1 out.2 state c.requires.network.network c.requires.certificate c.requires.comes c.args.label.now.arc refl
    (c.comes_from.ensures.arc c.if-comes_from.true) (c.comes_from.ensures.tail c.if-comes_from.true ∙ c.head-head.ensures) c.requires.line.cost c.in_ok-weight.ensures.vector)

pub returns-then-is_beaten_by : goal.returns-then-is_beaten_by
returns-then-is_beaten_by c =
    let out = of_out_arcs c.args.network.now c.args.label.now.node.0 c.args.arc c.requires.leads in
    tells_needless c.args.network.now c.args.self.now.cert (line_of c.args.label.now) c.args.arc c.in_ok-weight.weight out.0 out.1 out.2
    (sym c.weight.ensures.state ∙ c.in_ok-weight.was) (c.is_unbeaten-2.ensures c.if-is_unbeaten-2.true)
    (subst₂ (λ v s. IsBeaten c.args.self.now.cert.labels v s) c.head-head.ensures c.plus-sum.ensures (c.is_beaten_by.ensures c.if-is_beaten_by.true))

pub is_beaten_by-requires : goal.is_beaten_by-requires
is_beaten_by-requires c =
    ap length c.plus-sum.ensures
    ∙ length-plus c.args.label.now.cost c.in_ok-weight.weight (c.requires.line.cost ∙ sym c.in_ok-weight.ensures.vector.whole)
    ∙ c.requires.line.cost ∙ sym c.requires.of.criteria

pub look_near-found-requires : goal.look_near-found-requires
look_near-found-requires c =
    ap length c.plus-sum.ensures
    ∙ length-plus c.args.label.now.cost c.in_ok-weight.weight (c.requires.line.cost ∙ sym c.in_ok-weight.ensures.vector.whole)
    ∙ c.requires.line.cost ∙ sym c.requires.of.criteria

pub returns-in-Some : goal.returns-in-Some
returns-in-Some c =
    let out = of_out_arcs c.args.network.now c.args.label.now.node.0 c.args.arc c.requires.leads in
    let labels = c.args.self.now.cert.labels in
    tells_later c.args.network.now c.args.self.now.cert (line_of c.args.label.now) c.args.arc c.in_ok-weight.weight out.0 out.1 out.2
    (sym c.weight.ensures.state ∙ c.in_ok-weight.was) c.in-Some.listed
    (subst₂ (λ v s. Finds labels v s (Some c.in-Some.listed)) c.head-head.ensures c.plus-sum.ensures (rw c.in-Some.is at c.look_near-found.ensures.found)) c.if-listed-arc.true

pub returns-in-Some-2 : goal.returns-in-Some-2
returns-in-Some-2 c =
    let out = of_out_arcs c.args.network.now c.args.label.now.node.0 c.args.arc c.requires.leads in
    let labels = c.args.self.now.cert.labels in
    tells_listed c.args.network.now c.args.self.now.cert (line_of c.args.label.now) c.args.arc c.in_ok-weight.weight out.0 out.1 out.2
    (sym c.weight.ensures.state ∙ c.in_ok-weight.was) c.in-Some.listed
    (subst₂ (λ v s. Finds labels v s (Some c.in-Some.listed)) c.head-head.ensures c.plus-sum.ensures (rw c.in-Some.is at c.look_near-found.ensures.found)) (λ above. omega (arith, above, c.if-listed-arc.false))

pub returns-in-None : goal.returns-in-None
returns-in-None c =
    let out = of_out_arcs c.args.network.now c.args.label.now.node.0 c.args.arc c.requires.leads in
    let labels = c.args.self.now.cert.labels in
    tells_beaten c.args.network.now c.args.self.now.cert (line_of c.args.label.now) c.args.arc c.in_ok-weight.weight out.0 out.1 out.2
    (sym c.weight.ensures.state ∙ c.in_ok-weight.was)
    (subst₂ (λ v s. Finds labels v s None) c.head-head.ensures c.plus-sum.ensures (rw c.in-None.is at c.look_near-found.ensures.found))
    (subst₂ (λ v s. IsBeaten labels v s ⊎ IsBeaten labels c.args.self.now.cert.target s) c.head-head.ensures c.plus-sum.ensures (c.is_useless.ensures.0 c.if-is_useless.true))

pub returns-in-None-2 : goal.returns-in-None-2
returns-in-None-2 c =
    let out = of_out_arcs c.args.network.now c.args.label.now.node.0 c.args.arc c.requires.leads in
    let labels = c.args.self.now.cert.labels in
    tells_astray c.args.network.now c.args.self.now.cert (line_of c.args.label.now) c.args.arc c.in_ok-weight.weight out.0 out.1 out.2
    (sym c.weight.ensures.state ∙ c.in_ok-weight.was)
    (subst₂ (λ v s. Finds labels v s None) c.head-head.ensures c.plus-sum.ensures (rw c.in-None.is at c.look_near-found.ensures.found))
    (λ beaten.
    let back = subst₂ (λ v s. IsBeaten labels v s ⊎ IsBeaten labels c.args.self.now.cert.target s) (sym c.head-head.ensures) (sym c.plus-sum.ensures) beaten in
    let holds = c.is_useless.ensures.1 back in
    absurd cc)
