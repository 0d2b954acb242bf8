-- Costs without their first component: it decides nothing where a cost doesn't come behind the other.
use Rattle.std.proofs.Common.{◌↔◌, ℕ, ◌<◌, ◌≤◌, List, ◌∷◌, inl, inr, sym, ap, Less}
use Rattle.std.specs.Ordering.{ordering_then}
use Rattle.std.specs.Cmp.{nat_cmp_is}
use Rattle.std.proofs.lemmas.Bool.{cases_lt}
use Rattle.cost_vector.specs.Costs.{AtMost, LexLess, lex_cmp}

-- the lesser first component comes first
pub first_decides : (x y : ℕ) (xs ys : List ℕ) → x < y → LexLess (x ∷ xs) (y ∷ ys)
first_decides x y xs ys less = ap (λ o. ordering_then o (lex_cmp xs ys)) (sym (nat_cmp_is x y Less less))

-- what doesn't come behind has no greater first component
pub first_at_most : (x y : ℕ) (xs ys : List ℕ) → ¬ LexLess (y ∷ ys) (x ∷ xs) → x ≤ y
first_at_most x y xs ys not_behind = elim (cases_lt y x) [
  | inl less ↦ absurd (not_behind (first_decides y x ys xs less))
  | inr at_most ↦ at_most
]

-- so the rests decide
pub rests_decide : (x y : ℕ) (xs ys : List ℕ) → ¬ LexLess (y ∷ ys) (x ∷ xs) → AtMost (x ∷ xs) (y ∷ ys) ↔ AtMost xs ys
rests_decide x y xs ys not_behind = (λ h. h.1, λ h. (first_at_most x y xs ys not_behind, h))
