use Rattle.std.proofs.Common.{◌≡◌, ◌≢◌, inl, inr, ◌+◌, ◌-◌, ◌<◌, length, refl, sym, subst, Some, arith}
use Rattle.std.specs.Prelude.{slice_get}
use Rattle.std.proofs.lemmas.Bool.Decides.{nat_tests}
use Rattle.std.proofs.lemmas.Option.{slice_get_read}
use Rattle.front_cert.proofs.LookupLemmas.{Beats, NoneBetween, beaten_by, none_at_all, none_behind, none_block, none_more}
use Rattle.front_cert.proofs.lookup.is_beaten_at.Goals as goal

pub returns-then-ne : goal.returns-then-ne
returns-then-ne c =
    let labels = c.args.labels.now in
    let x = c.index-labels-left.result in
    let left = c.labels.left - 1 in
    let more : left + 1 ≡ c.labels.left = omega (arith, c.labels-test.true) in
    let below : left < c.args.place = omega (arith, c.labels-test.true, c.labels.invariant.within) in
    let here : slice_get labels left ≡ Some x = slice_get_read labels (length labels) left x refl (omega (arith, below, c.requires.within)) c.index-labels-left.is in
    let other : x.node.0 ≢ c.args.node.0 = λ same. let bottom : ⊥ = grind (arith, nat_tests) in bottom in
    let none = none_behind labels c.args.node.0 c.args.cost.now c.args.place c.requires.ascending c.requires.place left x here below other
    (subst (λ n. NoneBetween labels c.args.node.0 c.args.cost.now n c.args.place) (sym more) c.labels.invariant.none) in
    (λ e. absurd cc, λ beaten. absurd (none beaten))

pub returns-then-at_most : goal.returns-then-at_most
returns-then-at_most c =
    let labels = c.args.labels.now in
    let x = c.index-labels-left.result in
    let left = c.labels.left - 1 in
    let below : left < c.args.place = omega (arith, c.labels-test.true, c.labels.invariant.within) in
    let here : slice_get labels left ≡ Some x = slice_get_read labels (length labels) left x refl (omega (arith, below, c.requires.within)) c.index-labels-left.is in
    let node : x.node.0 ≡ c.args.node.0 = grind (arith, nat_tests) in
    let at_most = c.at_most.ensures.0 c.if-at_most.true in
    let beaten = beaten_by labels c.args.node.0 c.args.cost.now c.args.place c.requires.ascending c.requires.place left x here below (node, at_most) in
    (λ e. beaten, λ other. refl)

pub labels-preserved : goal.labels-preserved
labels-preserved c =
    let labels = c.args.labels.now in let corners = c.args.corners.now in let v = c.args.node.0 in let cost = c.args.cost.now in let place = c.args.place in
    let x = c.index-labels-left.result in
    let end = c.labels.left in
    let left = end - 1 in
    let more : left + 1 ≡ end = omega (arith, c.labels-test.true) in
    let below : left < place = omega (arith, c.labels-test.true, c.labels.invariant.within) in
    let here : slice_get labels left ≡ Some x = slice_get_read labels (length labels) left x refl (omega (arith, below, c.requires.within)) c.index-labels-left.is in
    let other : ¬ Beats v cost x = λ beats. let holds = c.at_most.ensures.1 beats.1 in absurd cc in
    let size = c.passed_over-left.result in
    record {
      within = omega (arith, c.labels.invariant.within);
      none = elim (c.passed_over-left.ensures.block) as (λ _. NoneBetween labels v cost (end - size) place) [
        | inl one ↦ subst (λ n. NoneBetween labels v cost (end - n) place) (sym one)
            (none_more labels v cost place c.requires.ascending c.requires.place left x here other
            (subst (λ n. NoneBetween labels v cost n place) (sym more) c.labels.invariant.none))
        | inr passed ↦ none_block labels v cost place c.requires.ascending c.requires.place (length cost) corners c.requires.cornered end size passed c.labels.invariant.none
      ];
    }

pub returns : goal.returns
returns c =
    let zero : c.labels.left ≡ 0 = omega (arith, c.labels-test.false) in
    let none = none_at_all c.args.labels.now c.args.node.0 c.args.cost.now c.args.place c.requires.ascending c.requires.place
    (subst (λ n. NoneBetween c.args.labels.now c.args.node.0 c.args.cost.now n c.args.place) zero c.labels.invariant.none) in
    (λ e. absurd cc, λ beaten. absurd (none beaten))
