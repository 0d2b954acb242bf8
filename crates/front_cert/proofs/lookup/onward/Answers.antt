use Rattle.std.proofs.Common.{◌≡◌, ◌+◌, ◌-◌, length, refl, sym, ◌∙◌, Some, arith}
use Rattle.std.specs.Prelude.{slice_get}
use Rattle.std.proofs.lemmas.Option.{slice_get_read}
use Rattle.front_cert.proofs.OffsetLemmas.{encloses_behind, encloses_up_to}
use Rattle.front_cert.proofs.lookup.onward.Goals as goal

pub returns-then-not-is_before : goal.returns-then-not-is_before
returns-then-not-is_before c =
    let labels = c.args.labels.now in
    let x = c.index-labels-last.result in
    let last = c.steps.first + c.steps.step - 1 in
    let here : slice_get labels last ≡ Some x = slice_get_read labels (length labels) last x refl (omega (arith, c.steps.invariant.encloses.within)) c.index-labels-last.is in
    encloses_up_to labels c.args.node.0 c.args.cost.now c.requires.ascending c.steps.first c.args.end c.steps.invariant.encloses last x here (omega arith)
    (sym c.is_before.ensures ∙ c.if-not-is_before.true)

pub steps-preserved : goal.steps-preserved
steps-preserved c =
    let labels = c.args.labels.now in
    let x = c.index-labels-last.result in
    let last = c.steps.first + c.steps.step - 1 in
    let here : slice_get labels last ≡ Some x = slice_get_read labels (length labels) last x refl (omega (arith, c.steps.invariant.encloses.within)) c.index-labels-last.is in
    record {
      step = omega arith;
      encloses = encloses_behind labels c.args.node.0 c.args.cost.now c.requires.ascending c.steps.first c.args.end c.steps.invariant.encloses last x here (omega arith)
          (sym c.is_before.ensures ∙ c.if-not-is_before.false);
    }
