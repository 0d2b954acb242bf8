use Rattle.std.proofs.Common.{◌≡◌, ◌+◌, ◌-◌, length, refl, sym, subst, ◌∙◌, Some, arith}
use Rattle.std.specs.Prelude.{slice_get}
use Rattle.std.proofs.lemmas.Option.{slice_get_read}
use Rattle.front_cert.specs.Lookup.{Encloses}
use Rattle.front_cert.proofs.OffsetLemmas.{encloses_behind, encloses_up_to}
use Rattle.front_cert.proofs.lookup.narrowed.Goals as goal

pub onward-requires-clause-encloses : goal.onward-requires-clause-encloses
onward-requires-clause-encloses c =
    let labels = c.args.labels.now in let hint = c.args.hint in
    let x = c.index-labels-hint.result in
    let here : slice_get labels hint ≡ Some x = slice_get_read labels (length labels) hint x refl (omega (arith, c.requires.encloses.within)) c.index-labels-hint.is in
    encloses_behind labels c.args.node.0 c.args.cost.now c.requires.ascending c.args.first c.args.end c.requires.encloses hint x here (omega arith)
    (sym c.is_before.ensures ∙ c.if-is_before.true)

pub returns-then-hint-first-2 : goal.returns-then-hint-first-2
returns-then-hint-first-2 c =
    let labels = c.args.labels.now in let hint = c.args.hint in let first = c.args.first in
    let x = c.index-labels-hint.result in
    let here : slice_get labels hint ≡ Some x = slice_get_read labels (length labels) hint x refl (omega (arith, c.requires.encloses.within)) c.index-labels-hint.is in
    let up_to = encloses_up_to labels c.args.node.0 c.args.cost.now c.requires.ascending first c.args.end c.requires.encloses hint x here (omega arith)
    (sym c.is_before.ensures ∙ c.if-is_before.false) in
    let same : hint ≡ first = omega arith in
    subst (λ n. Encloses labels c.args.node.0 c.args.cost.now first n) same up_to

pub returns-then-is_before-2 : goal.returns-then-is_before-2
returns-then-is_before-2 c =
    let labels = c.args.labels.now in let hint = c.args.hint in let first = c.args.first in
    let x = c.index-labels-hint.result in let y = c.index-labels-hint-2.result in
    let here : slice_get labels hint ≡ Some x = slice_get_read labels (length labels) hint x refl (omega (arith, c.requires.encloses.within)) c.index-labels-hint.is in
    let last : slice_get labels (hint - 1) ≡ Some y = slice_get_read labels (length labels) (hint - 1) y refl (omega (arith, c.requires.encloses.within)) c.index-labels-hint-2.is in
    let up_to = encloses_up_to labels c.args.node.0 c.args.cost.now c.requires.ascending first c.args.end c.requires.encloses hint x here (omega arith)
    (sym c.is_before.ensures ∙ c.if-is_before.false) in
    let next : hint - 1 + 1 ≡ hint = omega arith in
    subst (λ n. Encloses labels c.args.node.0 c.args.cost.now n hint) next
    (encloses_behind labels c.args.node.0 c.args.cost.now c.requires.ascending first hint up_to (hint - 1) y last (omega arith)
    (sym c.is_before-2.ensures ∙ c.if-is_before-2.true))

pub returns-else-is_before-2 : goal.returns-else-is_before-2
returns-else-is_before-2 c =
    let labels = c.args.labels.now in let hint = c.args.hint in
    let y = c.index-labels-hint-2.result in
    let last : slice_get labels (hint - 1) ≡ Some y = slice_get_read labels (length labels) (hint - 1) y refl (omega (arith, c.requires.encloses.within)) c.index-labels-hint-2.is in
    encloses_up_to labels c.args.node.0 c.args.cost.now c.requires.ascending c.args.first c.args.end c.requires.encloses (hint - 1) y last (omega arith)
    (sym c.is_before-2.ensures ∙ c.if-is_before-2.false)
