-- The step that adds a history to the chronicle.
use Rattle.std.proofs.Common.{◌≡◌, ℕ, ◌+◌, ◌<◌, ◌==◌, Bool, true, false, List, [], ◌∷◌, ◌++◌, length, refl, ap, sym, subst, arith, inl, length-append, None}
use Rattle.std.proofs.lemmas.List.{append-nil}
use Rattle.std.proofs.lemmas.Bool.Decides.{nat_tests}
use mathlib.Core.List.{IsPrefix}
use prog.Atomic.{either}
use Rattle.logbook.specs.Pages.{Cell, cell, keeps, no_nib, step, Moves, Goes}
use Rattle.arc_graph.specs.History.{History}
use Rattle.epoch_store.specs.Chronicle.{IsChronicle, AddsHistory}
use Rattle.epoch_store.proofs.PrefixLemmas.{prefix_same}

abbrev shown : List History → List History
shown log = []

abbrev moved : List History → List History → ℕ → Type 0
moved xs ys n = Unit {0}

-- where the counting word is `old`, it becomes `next`, and the history is added
abbrev AddsOne : List History → History → ℕ → ℕ → List Cell → List History → Type 0
AddsOne v e old next =
    Goes IsChronicle shown moved 0 (v, (no_nib, None)) (λ n. either (n == old) next n) (AddsHistory (step 0 old next e) (v, (no_nib, None)))

adds_goes : (log v : List History) (e : History) (old next : ℕ) → length v ≡ old → next ≡ old + 1 → IsPrefix v log
    → (b : Bool) → (length log == old) ≡ b
    → AddsOne v e old next ((length log, true) ∷ (0, true) ∷ []) log
adds_goes log v e old next len next_is pre true is =
    let here : length log ≡ old = grind (arith, nat_tests) in
    let same : v ≡ log = prefix_same v log log pre ([], append-nil log) (omega arith) in
    let n : either (length log == old) next (length log) ≡ length (log ++ e ∷ []) = rw is (omega (arith, length-append log (e ∷ []))) in (
      keeps,
      e ∷ [],
      None,
      tt,
      record { words = ap (λ (k : ℕ). (k, true) ∷ (0, true) ∷ []) n },
      inl (refl, refl),
      rw is (ap (λ w. w ++ e ∷ []) (sym same)),
    )
adds_goes log v e old next len next_is pre false is =
    let all : log ++ [] ≡ log = append-nil log in
    let n : either (length log == old) next (length log) ≡ length (log ++ []) = rw is (ap length (sym all)) in (
      keeps,
      [],
      None,
      tt,
      record { words = ap (λ (k : ℕ). (k, true) ∷ (0, true) ∷ []) n },
      inl (refl, refl),
      rw is tt,
    )

-- whatever the chronicle is, the step adds the history to all that was seen, or finds that there are more
pub adds_moves : (v : List History) (e : History) (old next : ℕ) → length v ≡ old → next ≡ old + 1
    → Moves IsChronicle shown moved 0 (v, (no_nib, None)) (λ n. either (n == old) next n) (AddsHistory (step 0 old next e) (v, (no_nib, None)))
adds_moves v e old next len next_is cs log kept pre away =
    let P : List Cell → Type 0 = λ c. (0 < length c) × ((cell c 0).1 ≡ true)
    × AddsOne v e old next c log in
    subst P (sym kept.words) (omega arith, refl, adds_goes log v e old next len next_is pre (length log == old) refl)
