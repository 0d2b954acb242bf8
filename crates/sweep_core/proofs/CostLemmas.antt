-- A cost that is moved on along an arc: less one height, and more by a vector and another height.
use Rattle.std.proofs.Common.{◌≡◌, ◌≢◌, ℕ, ◌+◌, ◌^◌, ◌<◌, ◌≤◌, List, length, get_or, set, inl, inr, sym, subst, ◌∙◌, arith}
use Rattle.std.specs.Prelude.{All}
use Rattle.std.proofs.lemmas.Grind.{same_number_lists}
use Rattle.std.proofs.lemmas.Bool.{cases_eq, cases_lt}
use Rattle.std.proofs.lemmas.List.{get_or-set_other, get_or-set_same, length-set}
use Rattle.std.proofs.lemmas.List.Elements.{All-get_or, All-weaker}
use Rattle.cost_vector.specs.Costs.{plus}
use Rattle.cost_vector.proofs.Vectors.{length-plus}
use Rattle.cost_vector.proofs.Components.{get_or-plus}

module _ (d : ℕ) (cost own c : List ℕ) (own_long : length own ≡ d) (long : length c ≡ d) (sum : cost ≡ plus c own) where
  pub cost_long : length cost ≡ d
  cost_long = subst (λ z. length z ≡ d) (sym sum) (length-plus c own (long ∙ sym own_long) ∙ long)

  pub cost_at : (k : ℕ) → get_or cost k 0 ≡ get_or c k 0 + get_or own k 0
  cost_at k = subst (λ z. get_or z k 0 ≡ get_or c k 0 + get_or own k 0) (sym sum) (get_or-plus c own k (long ∙ sym own_long))

  module _ (small : All (λ x. x < 2 ^ 59) c) (k : ℕ) (within : k < d) where
    pub own_fits : get_or own k 0 ≤ get_or cost k 0
    own_fits = omega (arith, cost_at k)

    pub less_fits : (x : ℕ) → x + get_or own k 0 ≡ get_or cost k 0 → x < 2 ^ 59
    less_fits x is = omega (arith, cost_at k, is, All-get_or (λ y. y < 2 ^ 59) c k 0 (omega (arith, within, long)) small)

  pub moved_sum : (by bound moved : List ℕ) → length by ≡ d → length bound ≡ d → length moved ≡ d
      → ((k : ℕ) → k < d → get_or moved k 0 + get_or own k 0 ≡ get_or cost k 0 + (get_or by k 0 + get_or bound k 0)) → moved ≡ plus (plus c by) bound
  moved_sum by bound moved by_long bound_long moved_long each =
      let first : length (plus c by) ≡ d = length-plus c by (long ∙ sym by_long) ∙ long in
      let whole : length (plus (plus c by) bound) ≡ d = length-plus (plus c by) bound (first ∙ sym bound_long) ∙ first in
      same_number_lists moved (plus (plus c by) bound) (moved_long ∙ sym whole)
      (λ k within. omega (
        arith,
        each k (omega (arith, within, moved_long)),
        cost_at k,
        get_or-plus (plus c by) bound k (first ∙ sym bound_long),
        get_or-plus c by k (long ∙ sym by_long),
      ))

-- the components up to i are moved on, and the others are as they were
pub record IsMovedUpTo (d : ℕ) (cost own by bound : List ℕ) (i : ℕ) (components : List ℕ) : Type 0 where
  pub long : length components ≡ d
  pub moved : (k : ℕ) → k < i → get_or components k 0 + get_or own k 0 ≡ get_or cost k 0 + (get_or by k 0 + get_or bound k 0)
  pub others : (k : ℕ) → i ≤ k → get_or components k 0 ≡ get_or cost k 0

pub moved_more : (d : ℕ) (cost own by bound : List ℕ) (i x : ℕ) (components : List ℕ) → IsMovedUpTo d cost own by bound i components → i < d
    → x + get_or own i 0 ≡ get_or cost i 0 + (get_or by i 0 + get_or bound i 0) → IsMovedUpTo d cost own by bound (i + 1) (set components i x)
moved_more d cost own by bound i x components so_far within here = record {
  long = length-set components i x ∙ so_far.long;
  moved = λ k below. elim (cases_eq k i) [
    | inl same ↦ subst (λ n. get_or (set components i x) n 0 + get_or own n 0 ≡ get_or cost n 0 + (get_or by n 0 + get_or bound n 0)) (sym same)
        (omega (arith, get_or-set_same components i x 0 (omega (arith, within, so_far.long)), here))
    | inr other ↦ omega (arith, get_or-set_other components i k x 0 other, so_far.moved k (omega (arith, below, other)))
  ];
  others = λ k above.
      let other : k ≢ i = λ e. omega (arith, above, e) in
      get_or-set_other components i k x 0 other ∙ so_far.others k (omega (arith, above));
}

-- where some component is too great for a width, though all are small, the width is less
pub no_room : (most bound : ℕ) (xs : List ℕ) → All (λ x. x < most) xs → ¬ All (λ x. x < bound) xs → bound < most
no_room most bound xs small none = elim (cases_lt bound most) [
  | inl less ↦ less
  | inr enough ↦ absurd (none (All-weaker (λ x. x < most) (λ x. x < bound) (λ x below. omega (arith, below, enough)) xs small))
]
