-- Places that are changed in two parts.
use Rattle.std.proofs.Common.{ℕ, ◌+◌, ◌-◌, List, ◌++◌, Result, Ok, Err, length, get_or, inl, inr, refl, subst, arith}
use Rattle.std.specs.Prelude.{IfOk}
use Rattle.std.proofs.lemmas.Bool.{cases_lt}
use Rattle.std.proofs.lemmas.List.{length-append, get_or_append_left, get_or-append-add, get_or-append_right}
use Rattle.settled_fronts.specs.Sharing.{AreAccepted, AreChanged}

module _ {P : Type 0} (xs ys : List P) where
  -- what is accepted of both is accepted of each
  pub accepted_parts : {Ready : Type 0} {Accepts : ℕ → P → Type 0} {first : ℕ} → AreAccepted Ready Accepts first (xs ++ ys)
      → AreAccepted Ready Accepts first xs × AreAccepted Ready Accepts (first + length xs) ys
  accepted_parts {Accepts = Accepts} {first} both = (
    record {
      ready = both.ready;
      room = omega (arith, both.room, length-append xs ys);
      each = λ i p within. subst (Accepts (first + i)) (get_or_append_left xs ys p i within) (both.each i p (omega (arith, within, length-append xs ys)));
    },
    record {
      ready = both.ready;
      room = omega (arith, both.room, length-append xs ys);
      each = λ i p within. subst (Accepts (first + length xs + i)) (get_or-append-add xs ys i p)
          (subst (λ n. Accepts n (get_or (xs ++ ys) (length xs + i) p)) {x = first + (length xs + i)} (omega arith)
          (both.each (length xs + i) p (omega (arith, within, length-append xs ys))));
    },
  )

  -- both parts are changed
  pub changed_parts : {Changed : ℕ → P → P → Type 0} {first : ℕ} {more others : List P} → AreChanged Changed first xs more
      → AreChanged Changed (first + length xs) ys others → AreChanged Changed first (xs ++ ys) (more ++ others)
  changed_parts {Changed} {first} {more} {others} one rest = record {
    count = omega (arith, one.count, rest.count, length-append xs ys, length-append more others);
    each = λ i p within. elim (cases_lt i (length xs)) [
      | inl before ↦ rw (get_or_append_left xs ys p i before, get_or_append_left more others p i (omega (arith, before, one.count))) (one.each i p before)
      | inr behind ↦ rw (get_or-append_right xs ys (length xs) i p refl behind, get_or-append_right more others (length xs) i p one.count behind)
          (subst (λ n. Changed n (get_or ys (i - length xs) p) (get_or others (i - length xs) p)) {x = first + length xs + (i - length xs)} (omega (arith, behind))
          (rest.each (i - length xs) p (omega (arith, behind, within, length-append xs ys))))
    ];
  }

  pub changed_if_ok : {Fault : Type 0} (Changed : ℕ → P → P → Type 0) (first : ℕ) (more others : List P) (r : Result Unit Fault)
      → IfOk r (λ _. AreChanged Changed first xs more) → IfOk r (λ _. AreChanged Changed (first + length xs) ys others)
      → IfOk r (λ _. AreChanged Changed first (xs ++ ys) (more ++ others))
  changed_if_ok Changed first more others (Err _) one rest = one
  changed_if_ok Changed first more others (Ok _) one rest = changed_parts one rest
