use Rattle.std.proofs.Common.{◌<◌, inl, replicate, refl, sym, subst, ◌∙◌, rules}
use Rattle.std.specs.Prelude.{All}
use Rattle.std.proofs.lemmas.Bool.{iff_false}
use Rattle.cost_vector.specs.Costs.{Within}
use Rattle.cost_vector.proofs.Vectors.{zeros-plus}
use Rattle.sweep_core.specs.Potentials.{IsHeightIfAny}
use Rattle.sweep_core.proofs.start.start_item.Goals as goal

pub of-height-requires : goal.of-height-requires
of-height-requires g c =
    let net = c.args.network.now in let t = c.args.target.0 in
    let is = g.met.P.Potential.consistent net t c.nodes.ensures.network c.requires.target in
    let has = subst (IsHeightIfAny (g.P.Potential.height net t) c.args.start.0) c.in-Some.is c.in_ok-height.ensures.exact in
    (search rules, is.whole c.args.start.0 c.in-Some.height has ∙ c.requires.criteria)

pub returns-then-not-allows-clause-start : goal.returns-then-not-allows-clause-start
returns-then-not-allows-clause-start g c = λ h other within.
    let net = c.args.network.now in let t = c.args.target.0 in
    let is = g.met.P.Potential.consistent net t c.nodes.ensures.network c.requires.target in
    let has = subst (IsHeightIfAny (g.P.Potential.height net t) c.args.start.0) c.in-Some.is c.in_ok-height.ensures.exact in
    iff_false c.allows.ensures c.if-not-allows.true
    (subst (Within c.args.limit.now) (is.one c.args.start.0 h c.in-Some.height other has ∙ sym c.of-height.ensures) within)

pub returns-in_default-stored-clause-too_wide : goal.returns-in_default-stored-clause-too_wide
returns-in_default-stored-clause-too_wide g c = λ _.
    let net = c.args.network.now in let t = c.args.target.0 in
    let is = g.met.P.Potential.consistent net t c.nodes.ensures.network c.requires.target in
    let has = subst (IsHeightIfAny (g.P.Potential.height net t) c.args.start.0) c.in-Some.is c.in_ok-height.ensures.exact in
    let sum = c.of-height.ensures ∙ sym (zeros-plus net.criteria c.in-Some.height (is.whole c.args.start.0 c.in-Some.height has)) in record {
      node = c.args.start.0;
      cost = replicate net.criteria 0;
      from = inl (refl, refl);
      height = c.in-Some.height;
      has = has;
      within = subst (Within c.args.limit.now) sum (c.allows.ensures.0 c.if-not-allows.false);
      exceeds = subst (λ z. ¬ All (λ x. x < g.C.Part.Part.bound) z) sum c.in_default-stored.ensures.room;
    }
