-- A sorted list, passed member by member.
use Rattle.std.proofs.Common.{◌≡◌, ℕ, ◌+◌, ◌-◌, ◌<◌, ◌⊎◌, ◌↔◌, List, [], ◌∷◌, ◌++◌, append_assoc, take, drop, take-append-drop}
use Rattle.std.proofs.Common.{length, get_or, length-drop, inl, inr, refl, sym, ap, subst, ◌∙◌, arith}
use Rattle.std.specs.Prelude.{All, AllPairs, Contains, slice_get}
use Rattle.std.proofs.Math.Seq.{take-append_seam, drop-append_seam}
use Rattle.std.proofs.lemmas.Bool.{cases_lt}
use Rattle.std.proofs.lemmas.List.{drop_more, take_all}
use Rattle.std.proofs.lemmas.List.Elements.{Contains-get_or}
use Rattle.std.proofs.lemmas.Option.{slice_get-get_or, slice_get_within, get_or_from_slice_get}
use Rattle.list_laws.proofs.Members.{each_in, in_first, in_one}
use Rattle.list_laws.proofs.OnceLaws.{in_append, in_cons, pairs_append}
use Rattle.list_laws.proofs.Pairs.{pairs_cons, pairs_rest, pairs_take, pair_with_first}
use Rattle.list_laws.specs.Sets.{SameMembers}
use Rattle.waiting_item.specs.declared.item.Item.{Item}
use Rattle.waiting_queue.specs.Passing.{AreNext, EndsAt, HasPassed, IsLookedAt, IsPassed, IsSplit, PassesNext}
use Rattle.waiting_queue.specs.Shadows.{Descends, IsBehind, IsDominatedBy, IsLater, IsRun}
use Rattle.waiting_queue.specs.Taking.{AreSorted, HasSpot}
use Rattle.waiting_item.specs.Waiting.{Spot, SpotLess, spot_in}
use Rattle.waiting_queue.proofs.OrderLemmas.{SpotLess-irrefl, SpotLess-trans, after_or_same, not_lex_less}
use Rattle.waiting_queue.proofs.ShadowLemmas.{in_parts, pairs_drop, pairs_parts, shadow_cast, shadow_tells}
use Rattle.waiting_queue.proofs.TakingLemmas.{each_append, takes_dominated, takes_more, takes_not}

-- the member at a place, and those behind it
pub begins_at : {X : Type 0} (xs : List X) (i : ℕ) (x : X) → i < length xs → x ≡ get_or xs i x → drop i xs ≡ x ∷ drop (i + 1) xs
begins_at xs i x within at = subst (λ z. drop i xs ≡ z ∷ drop (i + 1) xs) (sym at) (drop_more xs i x within)

module _ {C : Type 0} (components : C → List ℕ) where
  abbrev spot : Item C → Spot
  spot = spot_in components

  abbrev NotAfter : Item C → Item C → Type 0
  NotAfter a b = ¬ SpotLess (spot b) (spot a)

  -- the last of an ascending list is the only one that can have the spot of an item behind them
  pub ends_if_there : (took : List (Item C)) (s : Spot) → AllPairs (λ a b. SpotLess (spot a) (spot b)) took
      → ((x : Item C) → Contains took x → ¬ SpotLess s (spot x)) → HasSpot spot took s → EndsAt spot took s
  ends_if_there took s up behind (x, (i, within, is), at) = elim (cases_lt i (length took - 1)) [
    | inl before ↦ absurd (behind (get_or took (length took - 1) x) (Contains-get_or took (length took - 1) x (omega arith))
        (subst (λ y. SpotLess y (spot (get_or took (length took - 1) x))) (ap spot is ∙ at) (up i (length took - 1) x before (omega arith))))
    | inr past ↦ (x, let last : length took - 1 ≡ i = omega arith in rw (last, slice_get-get_or took i x within, is) refl, at)
  ]

  -- where a spot is that of the last, it is there
  pub has_if_ends : (took : List (Item C)) (s : Spot) → EndsAt spot took s → HasSpot spot took s
  has_if_ends took s (x, last, at) =
      let i = length took - 1 in (x, (i, slice_get_within took i x last, get_or_from_slice_get took i x x last), at)

  -- no member of a sorted list comes before its first
  pub first_of : (new : List (Item C)) (s : Item C) (others : List (Item C)) → new ≡ s ∷ others → AreSorted spot new
      → (y : Item C) → Contains new y → ¬ SpotLess (spot y) (spot s)
  first_of new s others begins sorted y h = each_append (s ∷ []) others (λ x one. rw (in_one s x one) (SpotLess-irrefl (spot s)))
      (pair_with_first NotAfter s others (rw begins at sorted)) y (rw begins at h)

  module _ (Open : Spot → Type 0) where
    abbrev Passes : List (Item C) → List C → List (Item C) → List (Item C) → List C → List (Item C) → List (Item C) → Type 0
    Passes = PassesNext components Open

    -- s comes next
    module _ (seen : List (Item C)) (costs : List C) (took left : List (Item C)) (s : Item C) (others : List (Item C))
        (next : AreNext components seen (s ∷ others)) (is : IsPassed components Open seen costs took left) where
      -- it comes before none that was seen
      behind : (x : Item C) → Contains seen x → ¬ SpotLess (spot s) (spot x)
      behind x h = next.behind x s h (in_first s others)

      -- its cost is before that of none that was taken
      later : IsLater components took (components s.cost)
      later x h = not_lex_less (spot x) (spot s) (behind x (is.takes.among x h))

      -- it comes behind the costs of the shadow
      behind_costs : IsBehind components costs (components s.cost)
      behind_costs x h = let from = is.shadow.from x h in rw (← from.2) (later from.0 from.1)

      -- it is looked at, and leaves or is taken
      passed_look : (more_costs : List C) (more_took : List (Item C))
          → (IsBehind components costs (components s.cost) → ¬ IsDominatedBy components costs (components s.cost)) → Descends components more_costs
          → IsLookedAt components Open s costs took more_costs more_took → IsPassed components Open (seen ++ s ∷ []) more_costs more_took left
      passed_look more_costs more_took free descends (inl (same_costs, same_took, why)) =
          let takes = takes_not spot Open seen took left is.takes s behind
          (elim why [ inl ends ↦ inl (has_if_ends took (spot s) ends) | inr closed ↦ inr closed ]) in
          rw (same_costs, same_took) assumption
      passed_look more_costs more_took free descends (inr (joins, more, not_last, held)) =
          let shadow = shadow_cast components took costs s is.shadow later (free behind_costs) more_costs joins in
          let takes = takes_more spot Open seen took left is.takes s behind held
          (λ by. free behind_costs (is.shadow.dominates (components s.cost) later by.0 by.1 by.2))
          (λ x h. elim (after_or_same (spot x) (spot s) (behind x (is.takes.among x h))) [
            | inl less ↦ less
            | inr same ↦ absurd (not_last (ends_if_there took (spot s) is.takes.ascending (λ z k. behind z (is.takes.among z k)) (x, h, same)))
          ]) in
          rw more assumption

    -- a run stays
    passes_run : {run : List (Item C)} {costs : List C} {took left : List (Item C)} → All (λ i. IsDominatedBy components costs (components i.cost)) run
        → Passes run costs took left costs took (left ++ run)
    passes_run {run} {costs} {took} {left} by = λ seen next is.
        let takes = takes_dominated spot Open seen took is.takes run (λ x h. shadow_tells components took costs (components x.cost) is.shadow
        (each_in (λ i. IsDominatedBy components costs (components i.cost)) run by x h)) in
        let sorted = pairs_append NotAfter left run is.sorted next.sorted (λ x y h k. next.behind x y (is.takes.stays x h).0 k) in assumption

    -- one list, and then another
    passes_both : {xs ys : List (Item C)} {costs mid_costs last_costs : List C} {took left mid_took mid_left last_took last_left : List (Item C)}
        → Passes xs costs took left mid_costs mid_took mid_left → Passes ys mid_costs mid_took mid_left last_costs last_took last_left
        → Passes (xs ++ ys) costs took left last_costs last_took last_left
    passes_both {xs} {ys} first second = λ seen next is.
        let front : AreSorted spot xs = rw take-append_seam at (pairs_take NotAfter (length xs) (xs ++ ys) next.sorted) in
        let back : AreSorted spot ys = rw drop-append_seam at (pairs_drop NotAfter (length xs) (xs ++ ys) next.sorted) in
        rw (← append_assoc) (second (seen ++ xs) (record {
          sorted = back;
          behind = λ x y h k. each_append seen xs (λ z old. next.behind z y old ((in_append xs ys y).1 (inr k)))
              (λ z new. pairs_parts NotAfter (length xs) (xs ++ ys) z y next.sorted (rw take-append_seam new) (rw drop-append_seam k)) x h;
        }) (first seen (record { sorted = front; behind = λ x y h k. next.behind x y h ((in_append xs ys y).1 (inl k)) }) is))

    module _ {items : List (Item C)} {n : ℕ} {costs : List C} {took left : List (Item C)} (run : IsRun components costs items n) where
      -- a run stays, and the next item is looked at
      pub run_passed : {s : Item C} {others more_took last_took last_left : List (Item C)} {more_costs last_costs : List C} → drop n items ≡ s ∷ others
          → Descends components more_costs → IsLookedAt components Open s costs took more_costs more_took
          → Passes others more_costs more_took (left ++ take n items) last_costs last_took last_left
          → Passes items costs took left last_costs last_took last_left
      run_passed {s = s} {more_took = more_took} {more_costs = more_costs} parts descends looked on =
          let free = run.ends s (ap (λ xs. slice_get xs 0) parts) in
          rw (← take-append-drop n items, parts) (passes_both (passes_run run.shadowed) (passes_both (λ seen next is.
          passed_look seen costs took (left ++ take n items) s [] next is more_costs more_took free descends looked) on))

      -- a run stays, behind which there is no item
      pub run_last : length (drop n items) ≡ 0 → Passes items costs took left costs took (left ++ take n items)
      run_last none = let all = take_all n items (omega (arith, length-drop n items)) in rw all (passes_run (rw all at run.shadowed))

    -- ---- two sorted lists

    -- Of all, those of two lists are left: where they are passed in some order, all are.
    pub record IsUnderWay (all left new : List (Item C)) (costs : List C) (took rest : List (Item C)) : Type 0 where
      pub descends : Descends components costs
      pub left_sorted : AreSorted spot left
      pub new_sorted : AreSorted spot new
      pub passes : (order : List (Item C)) → SameMembers (left ++ new) order → AreSorted spot order
          → (last_costs : List C) (last_took last_rest : List (Item C)) → Passes order costs took rest last_costs last_took last_rest
          → HasPassed components Open all last_costs last_took last_rest

    -- those of the first list that come before the first of the other are passed, and then that
    pub passed_turn : {all left others : List (Item C)} {s : Item C} {costs mid_costs more_costs : List C}
        {took rest mid_took mid_rest more_took more_rest : List (Item C)} → IsUnderWay all left (s ∷ others) costs took rest
        → Descends components more_costs → (n : ℕ) → IsSplit spot left (spot s) n → Passes (take n left) costs took rest mid_costs mid_took mid_rest
        → Passes (s ∷ []) mid_costs mid_took mid_rest more_costs more_took more_rest → IsUnderWay all (drop n left) others more_costs more_took more_rest
    passed_turn {left = left} {others = others} {s = s} is descends n split front first = record {
      descends = descends;
      left_sorted = pairs_drop NotAfter n left is.left_sorted;
      new_sorted = pairs_rest NotAfter s others is.new_sorted;
      passes = λ order same ordered last_costs last_took last_rest on.
          let from : AreSorted spot (s ∷ order) = pairs_cons NotAfter s order (λ y k.
          each_append (drop n left) others (each_in (λ z. ¬ SpotLess (spot z) (spot s)) (drop n left) split.after)
          (pair_with_first NotAfter s others is.new_sorted) y ((same y).1 k)) ordered in
          is.passes (take n left ++ s ∷ order) (λ x. regrouped (in_append left (s ∷ others) x) (in_parts left n x) (in_cons s others x)
          (in_append (drop n left) others x) (same x) (in_append (take n left) (s ∷ order) x) (in_cons s order x))
          (pairs_append NotAfter (take n left) (s ∷ order) (pairs_take NotAfter n left is.left_sorted) from
          (λ x y h k back. first_of (s ∷ order) s order refl from y k
          (SpotLess-trans (spot y) (spot x) (spot s) back (each_in (λ z. SpotLess (spot z) (spot s)) (take n left) split.before x h))))
          last_costs last_took last_rest (passes_both front (passes_both first on));
    }
      where
        regrouped : {A L N F B S O R R' A' T : Type 0} → A ↔ (L ⊎ N) → L ↔ (F ⊎ B) → N ↔ (S ⊎ O) → R ↔ (B ⊎ O) → R ↔ R' → A' ↔ (F ⊎ T) → T ↔ (S ⊎ R')
            → A ↔ A'
        regrouped a l n r e b t = grind arith
