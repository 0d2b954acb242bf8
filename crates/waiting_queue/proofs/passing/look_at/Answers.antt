use Rattle.std.proofs.Common.{arith, rules, inl, inr, refl}
use Rattle.std.proofs.lemmas.Grind.{common_steps}
use Rattle.waiting_queue.proofs.passing.look_at.Goals.{then-is_last-via-then-is_last, then-is_last-via-else-is_last+then-not-is_open}
use Rattle.waiting_queue.proofs.passing.look_at.Goals as goal

pub returns-then-is_last-clause-looked : goal.returns-then-is_last-clause-looked
returns-then-is_last-clause-looked g c =
    let ends = rw c.deref.ensures.value at c.is_last.ensures in
    inl (refl, refl, grind (arith, common_steps, ends))

pub returns-clause-looked : goal.returns-clause-looked
returns-clause-looked g c =
    let ends = rw c.deref.ensures.value at c.is_last.ensures in
    inr (search (rules, ends))
