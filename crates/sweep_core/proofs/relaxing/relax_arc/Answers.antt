use Rattle.std.proofs.Common.{◌≡◌, length, refl, sym, subst, ◌∙◌, rules}
use Rattle.std.proofs.lemmas.Bool.{eqb-true, iff_false}
use Rattle.cost_vector.specs.Costs.{Within}
use Rattle.waiting_item.specs.Waiting.{Spot, spot_in}
use Rattle.sweep_core.specs.Potentials.{IsHeightIfAny}
use Rattle.sweep_core.proofs.LeadingLemmas.{given_at_head, gives, one_given, shut_gives_none, sum_with}
use Rattle.sweep_core.proofs.relaxing.relax_arc.Goals as goal

pub returns-then-eq-clause-given : goal.returns-then-eq-clause-given
returns-then-eq-clause-given g c = λ y given on within.
    let net = c.args.network.now in let P = g.P.Potential.height net c.args.target.0 in
    let back = eqb-true c.head-head.result.0 c.args.item.now.from.0 (sym c.if-eq.ensures) in
    on (given_at_head net P (spot_in g.C.StoredCost.components c.args.item.now) y c.args.arc given ∙ sym c.head-head.ensures ∙ back)

pub returns-in_default-clause-given : goal.returns-in_default-clause-given
returns-in_default-clause-given g c = λ y given on within.
    let net = c.args.network.now in let P = g.P.Potential.height net c.args.target.0 in
    shut_gives_none net P (spot_in g.C.StoredCost.components c.args.item.now) c.args.arc y (sym c.weight.ensures.state ∙ c.in_default.is) given

pub returns-in_default-2-clause-given : goal.returns-in_default-2-clause-given
returns-in_default-2-clause-given g c = λ y given on within.
    let net = c.args.network.now in let P = g.P.Potential.height net c.args.target.0 in
    let none = subst (IsHeightIfAny P c.head-head.result.0) c.in_default-2.is c.in_ok-height.ensures.exact in
    none given.height (subst (λ v. P v given.height) (given_at_head net P (spot_in g.C.StoredCost.components c.args.item.now) y c.args.arc given ∙ sym c.head-head.ensures) given.has)

pub moved_on-moved-requires : goal.moved_on-moved-requires
moved_on-moved-requires g c =
    let net = c.args.network.now in let t = c.args.target.0 in let P = g.P.Potential.height net t in
    let is = g.met.P.Potential.consistent net t c.nodes.ensures.network c.requires.target in
    let b = c.requires.spot.is_lifted in
    let head = subst (IsHeightIfAny P c.head-head.result.0) c.in-Some-2.is c.in_ok-height.ensures.exact in
    let own : length c.args.own.now ≡ g.row.D = is.whole c.args.item.now.node.0 c.args.own.now c.requires.own ∙ c.requires.criteria in
    let by : length c.in-Some.weight ≡ g.row.D = c.in-Some.ensures.vector.whole ∙ c.requires.criteria in
    let height : length c.in-Some-2.height ≡ g.row.D = is.whole c.head-head.result.0 c.in-Some-2.height head ∙ c.requires.criteria in
    let long : length b.cost ≡ g.row.D = b.whole ∙ c.requires.criteria in
    let sum = c.to_compact.ensures.same ∙ sum_with net t P is (spot_in g.C.StoredCost.components c.args.item.now) b c.args.own.now c.requires.own in
    (search rules, (own, (by, (height, ((b.cost, long, sum, c.requires.spot.small), is.small c.head-head.result.0 c.in-Some-2.height head)))))

pub returns-then-not-allows-clause-given : goal.returns-then-not-allows-clause-given
returns-then-not-allows-clause-given g c = λ y other on within.
    let net = c.args.network.now in let t = c.args.target.0 in let P = g.P.Potential.height net t in
    let is = g.met.P.Potential.consistent net t c.nodes.ensures.network c.requires.target in
    let b = c.requires.spot.is_lifted in let x = spot_in g.C.StoredCost.components c.args.item.now in
    let head = subst (IsHeightIfAny P c.head-head.result.0) c.in-Some-2.is c.in_ok-height.ensures.exact in
    let sum = c.to_compact.ensures.same ∙ sum_with net t P is x b c.args.own.now c.requires.own in
    let given = gives net P x b c.args.arc c.requires.arc c.in-Some.weight c.in-Some-2.height (sym c.weight.ensures.state ∙ c.in-Some.is)
    (subst (λ v. P v c.in-Some-2.height) c.head-head.ensures head) (record { cost = c.moved_on-moved.result.0; node = c.head-head.result.0 }) c.head-head.ensures
    (c.moved_on-moved.ensures b.cost (b.whole ∙ c.requires.criteria) sum) in
    iff_false c.allows.ensures c.if-not-allows.true
    (subst (λ (z : Spot). Within c.args.limit.now z.cost) (one_given net t P is x c.args.arc.0 y _ other given) within)

pub returns-in_default-stored-clause-too_wide : goal.returns-in_default-stored-clause-too_wide
returns-in_default-stored-clause-too_wide g c = λ _.
    let net = c.args.network.now in let t = c.args.target.0 in let P = g.P.Potential.height net t in
    let is = g.met.P.Potential.consistent net t c.nodes.ensures.network c.requires.target in
    let b = c.requires.spot.is_lifted in let x = spot_in g.C.StoredCost.components c.args.item.now in
    let head = subst (IsHeightIfAny P c.head-head.result.0) c.in-Some-2.is c.in_ok-height.ensures.exact in
    let sum = c.to_compact.ensures.same ∙ sum_with net t P is x b c.args.own.now c.requires.own in
    let y : Spot = record { cost = c.moved_on-moved.result.0; node = c.head-head.result.0 } in record {
      arc = c.args.arc.0;
      spot = y;
      given = gives net P x b c.args.arc c.requires.arc c.in-Some.weight c.in-Some-2.height (sym c.weight.ensures.state ∙ c.in-Some.is)
          (subst (λ v. P v c.in-Some-2.height) c.head-head.ensures head) y c.head-head.ensures
          (c.moved_on-moved.ensures b.cost (b.whole ∙ c.requires.criteria) sum);
      within = c.allows.ensures.0 c.if-not-allows.false;
      exceeds = c.in_default-stored.ensures.room;
    }

pub returns-clause-given : goal.returns-clause-given
returns-clause-given g c =
    let net = c.args.network.now in let t = c.args.target.0 in let P = g.P.Potential.height net t in
    let is = g.met.P.Potential.consistent net t c.nodes.ensures.network c.requires.target in
    let b = c.requires.spot.is_lifted in let components = g.C.StoredCost.components in
    let x = spot_in components c.args.item.now in
    let head = subst (IsHeightIfAny P c.head-head.result.0) c.in-Some-2.is c.in_ok-height.ensures.exact in
    let sum = c.to_compact.ensures.same ∙ sum_with net t P is x b c.args.own.now c.requires.own in
    let stored = c.in-Some-stored.ensures.cost in (
      gives net P x b c.args.arc c.requires.arc c.in-Some.weight c.in-Some-2.height (sym c.weight.ensures.state ∙ c.in-Some.is)
          (subst (λ v. P v c.in-Some-2.height) c.head-head.ensures head) (record { cost = components c.in-Some-stored.cost; node = c.head-head.result.0 }) c.head-head.ensures
          (stored ∙ c.moved_on-moved.ensures b.cost (b.whole ∙ c.requires.criteria) sum),
      refl,
      subst (Within c.args.limit.now) (sym stored) (c.allows.ensures.0 c.if-not-allows.false),
    )
