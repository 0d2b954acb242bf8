use Rattle.std.proofs.Common.{◌≡◌, ◌+◌, ◌++◌, take, take_all, refl, inl, inr, sym, arith}
use Rattle.list_laws.proofs.OnceLaws.{in_append}
use Rattle.waiting_queue.specs.Joining.{taken_of}
use Rattle.waiting_queue.proofs.JoiningLemmas.{flat_steps, seen_in, unseen_in}
use Rattle.waiting_queue.proofs.marking.is_dominated.Goals.{else-ends_before-via-then-ends_before+else-is_shadowed, else-ends_before-via-else-ends_before}
use Rattle.waiting_queue.proofs.marking.is_dominated.Goals as goal

pub returns-then-is_shadowed : goal.returns-then-is_shadowed
returns-then-is_shadowed g c = (
  λ yes. seen_in g.C.StoredCost.components c.requires.parts c.requires.there (c.loop-part.part-index, c.loop-part-test.true, sym c.part-item.is)
      (rw c.deref-then-ends_before.ensures.value at (c.is_shadowed.ensures.dominated c.if-is_shadowed.true)),
  λ by. refl,
)

pub loop-part-preserved : goal.loop-part-preserved
loop-part-preserved g c = λ (y, y_in, by).
    let i = c.loop-part.part-index in
    let taken = c.part-item.result.taken.items in
    let none = unseen_in g.C.StoredCost.components c.requires.parts c.requires.there (i, c.loop-part-test.true, sym c.part-item.is)
    (λ ends behind. elim c.else-ends_before.branch [
      | else-ends_before-via-then-ends_before+else-is_shadowed w ↦
          (rw w.deref-then-ends_before.ensures.value at w.is_shadowed.ensures.free) w.if-is_shadowed.false behind
      | else-ends_before-via-else-ends_before w ↦ λ _. let yes = c.ends_before.ensures.1 (rw c.deref.ensures.value ends) in grind arith
    ]) in
    let more : taken_of (take (i + 1) c.args.parts.now) ≡ taken_of (take i c.args.parts.now) ++ taken = grind (arith, flat_steps) in
    elim ((in_append (taken_of (take i c.args.parts.now)) taken y).0 (rw more at y_in)) [
      | inl old ↦ c.loop-part.invariant (y, old, by)
      | inr new ↦ none (y, new, by)
    ]

pub returns : goal.returns
returns g c = (
  λ yes. absurd cc,
  λ by. absurd (c.loop-part.invariant (rw (take_all c.loop-part.part-index c.args.parts.now c.loop-part-test.false) by)),
)
