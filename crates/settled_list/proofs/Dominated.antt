-- What dominates a cost that none of a settled list comes behind.
use Rattle.std.proofs.Common.{◌≡◌, ◌↔◌, ℕ, ◌-◌, ◌<◌, List, [], length, get_or, map, inl, inr, sym, ap, subst, subst₂, ◌∙◌, arith, Bool, Option, Some, None, Bor, not}
use Rattle.std.specs.Prelude.{Contains, IsTrue, slice_get}
use Rattle.std.specs.Option.{option_copied, option_eq}
use Rattle.std.specs.declared.cmp.Ordering.{Ordering}
use Rattle.std.specs.Ordering.{is_eq}
use Rattle.std.specs.Cmp.{Equal-is, IsTotalOrder}
use Rattle.std.proofs.lemmas.Bool.{cases_lt, cases_order, false_from_ne_true, false≢true, not_from_false}
use Rattle.std.proofs.lemmas.Cmp.{tied_itself}
use Rattle.std.proofs.lemmas.List.{get_or_default, length-map}
use Rattle.std.proofs.lemmas.Option.{none-some, slice_get-get_or, slice_get_within}
use Rattle.cost_vector.specs.Costs.{AtMost, LexLess, lex_cmp}
use Rattle.cost_vector.proofs.Vectors.{same_from_lex_cmp}
use Rattle.settled_front.specs.Fronts.{IsCovered}
use Rattle.settled_front.proofs.Views.{got_at}
use Rattle.sweep_parts.specs.Settled.{IsBehind, IsDominated, IsSettledList}

module _ (costs : List (List ℕ)) (is : IsSettledList costs) (c : List ℕ) (behind : IsBehind costs c) where
  -- where it is one of them, none stands behind it
  none_behind : (k j : ℕ) → get_or costs k c ≡ c → k < j → ¬ (j < length costs)
  none_behind k j here before = λ within. behind j c within (subst (λ x. LexLess x (get_or costs j c)) here (is.ascending k j c before within))

  -- and no other is at most it
  alone : Contains costs c → (a : List ℕ) → Contains costs a → AtMost a c → a ≡ c
  alone (k, within, here) a (j, within_too, there) at_most =
      let stands : get_or costs j c ≡ a = get_or_default costs j c a within_too ∙ there in
      elim (cases_order j k) [
        | inl same ↦ sym stands ∙ ap (λ n. get_or costs n c) same ∙ here
        | inr (inl before) ↦ absurd (is.apart j k c before within (subst₂ AtMost (sym stands) (sym here) at_most))
        | inr (inr after) ↦ absurd (none_behind k j here after within_too)
      ]

  -- so it is the last one
  pub last_from_in : Contains costs c → get_or costs (length costs - 1) c ≡ c
  last_from_in (k, within, here) = elim (cases_lt k (length costs - 1)) [
    | inl before ↦ absurd (none_behind k (length costs - 1) here before (omega (arith, within)))
    | inr last ↦ subst (λ n. get_or costs n c ≡ c) (omega (arith, within, last)) here
  ]

  -- one of them dominates it where one is at most it, and it isn't one of them
  pub dominated_or_in : IsDominated costs c ↔ (IsCovered costs c × (¬ Contains costs c))
  dominated_or_in = (
    λ h. (
      record { by = h.by; contains = h.contains; at_most = h.dominates.at_most },
      λ there. h.dominates.differs (alone there h.by h.contains h.dominates.at_most),
    ),
    λ h. record {
      by = h.0.by;
      contains = h.0.contains;
      dominates = record { at_most = h.0.at_most; differs = λ same. h.1 (subst (Contains costs) same h.0.contains) };
    },
  )

module _ {C : Type 0} (f : C → List ℕ) (cmp : C → C → Ordering) (total : IsTotalOrder cmp) (orders : (a b : C) → cmp a b ≡ lex_cmp (f a) (f b))
    (eq : C → C → Bool) (matches : (a b : C) → eq a b ≡ is_eq (cmp a b)) where
  -- what the test tells
  same_or_not : (a b : C) → IsTrue (eq a b) ↔ (f a ≡ f b)
  same_or_not a b = (
    λ h. same_from_lex_cmp (f a) (f b) (sym (orders a b) ∙ (Equal-is (cmp a b)).0 (sym (matches a b) ∙ h)),
    λ same. matches a b ∙ (Equal-is (cmp a b)).1 (orders a b ∙ ap (lex_cmp (f a)) (sym same) ∙ sym (orders a a) ∙ tied_itself total a),
  )

  module _ (xs : List C) (is : IsSettledList (map f xs)) (x : Bor C) (behind : IsBehind (map f xs) (f x.now)) where
    -- one is the last exactly where it is one of them
    last_tells : (last : Option (Bor C)) → option_copied last ≡ slice_get xs (length xs - 1)
        → IsTrue (option_eq (λ a b. eq a.now b.now) last (Some x)) ↔ Contains (map f xs) (f x.now)
    last_tells None stands = (
      λ h. absurd (false≢true h),
      λ there. absurd (none-some (get_or xs (length xs - 1) x.now) (stands ∙ slice_get-get_or xs (length xs - 1) x.now (omega (arith, there.1, length-map xs f)))),
    )
    last_tells (Some y) stands =
        let within = slice_get_within xs (length xs - 1) y.now (sym stands) in
        let got = got_at f xs (length xs - 1) y.now (sym stands) in
        let tells = same_or_not y.now x.now in (
          λ h. (length xs - 1, omega (arith, within, length-map xs f), get_or_default (map f xs) (length xs - 1) (f x.now) [] (omega (arith, within, length-map xs f)) ∙ got ∙ tells.0 h),
          λ there. tells.1 (sym got ∙ get_or_default (map f xs) (length xs - 1) [] (f x.now) (omega (arith, within, length-map xs f))
              ∙ subst (λ n. get_or (map f xs) (n - 1) (f x.now) ≡ f x.now) (length-map xs f) (last_from_in (map f xs) is (f x.now) behind there)),
        )

    -- a cost dominates it where one is at most it that isn't the last
    pub dominates_but_last : (last : Option (Bor C)) → option_copied last ≡ slice_get xs (length xs - 1) → IsCovered (map f xs) (f x.now)
        → IsTrue (not (option_eq (λ a b. eq a.now b.now) last (Some x))) ↔ IsDominated (map f xs) (f x.now)
    dominates_but_last last stands covered =
        let tells = last_tells last stands in
        let decides = dominated_or_in (map f xs) is (f x.now) behind in (
          λ h. decides.1 (covered, λ there. absurd (false≢true (sym (ap not (tells.1 there)) ∙ h))),
          λ h. not_from_false (option_eq (λ a b. eq a.now b.now) last (Some x)) (false_from_ne_true (option_eq (λ a b. eq a.now b.now) last (Some x)) (λ e. (decides.0 h).1 (tells.0 e))),
        )
