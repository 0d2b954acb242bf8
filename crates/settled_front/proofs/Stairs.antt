-- Costs of two components that stand as a staircase.
use Rattle.std.proofs.Common.{◌≡◌, ◌↔◌, ◌⊎◌, ℕ, ◌+◌, ◌-◌, ◌*◌, ◌<◌, ◌≤◌, List, [], ◌∷◌, length, get_or, map, slice_get, Some}
use Rattle.std.proofs.Common.{inl, inr, ap, subst, ◌∙◌, sym, arith, Less, All, insert}
use Rattle.std.specs.Ordering.{ordering_then}
use Rattle.std.specs.Cmp.{nat_cmp_is}
use Rattle.std.proofs.lemmas.Bool.{cases_lt, cases_order}
use Rattle.std.proofs.lemmas.List.Edits.{get_or-insert_below, get_or-insert_at, get_or-insert_above, length-insert}
use Rattle.std.proofs.lemmas.List.{get_or_default, length-map}
use Rattle.std.proofs.lemmas.List.Elements.{All-cons}
use Rattle.std.proofs.lemmas.List.Sorted.{All-permutation, IsPermutation-insert}
use Rattle.cost_vector.specs.Costs.{AtMost, Dominates, LexLess, lex_cmp}
use Rattle.cost_vector.proofs.Vectors.{AtMost-refl}
use Rattle.settled_front.specs.Fronts.{IsCovered, ListsCosts}
use Rattle.settled_front.specs.Staircase.{IsCut, IsStaircase, IsUpTo, first, second}
use Rattle.settled_front.proofs.Covers.{covered_at, covers_at}
use Rattle.settled_front.proofs.Views.{got_at}

-- a cost is at most another exactly if both components are
at_most_pair : (a b : List ℕ) → length a ≡ 2 → length b ≡ 2 → AtMost a b ↔ ((first a ≤ first b) × (second a ≤ second b))
at_most_pair (x ∷ y ∷ []) (v ∷ w ∷ []) long long_too = (λ h. (h.0, h.1.0), λ h. (h.0, (h.1, tt)))
at_most_pair _ _ long long_too = absurd (omega arith)

-- the first components decide the order
less_by_first : (a b : List ℕ) → length a ≡ 2 → length b ≡ 2 → first a < first b → LexLess a b
less_by_first (x ∷ xs) (y ∷ ys) long long_too less = ap (λ o. ordering_then o (lex_cmp xs ys)) (sym (nat_cmp_is x y Less less))
less_by_first _ _ long long_too less = absurd (omega arith)

not_at_most : (a b : List ℕ) → length a ≡ 2 → length b ≡ 2 → ¬ AtMost a b → (first b < first a) ⊎ (second b < second a)
not_at_most a b long long_too not_below = elim (cases_lt (first b) (first a)) [
  | inl more ↦ inl more
  | inr less ↦ elim (cases_lt (second b) (second a)) [
    | inl more ↦ inr more
    | inr less_too ↦ absurd (not_below ((at_most_pair a b long long_too).1 (less, less_too)))
  ]
]

module _ {costs : List (List ℕ)} (s : IsStaircase costs) where
  abbrev at : ℕ → List ℕ
  at k = get_or costs k []

  -- a later cost is no less in the first component, and no greater in the second
  slopes : (i j : ℕ) → i ≤ j → j < length costs → (first (at i) ≤ first (at j)) × (second (at j) ≤ second (at i))
  slopes i j near within = elim (cases_lt i j) [
    | inl before ↦ let falls = s.descends i j [] before within in (omega arith, omega arith)
    | inr past ↦ let same : i ≡ j = omega arith in rw same (omega arith, omega arith)
  ]

  -- of the rest the later half goes, or the earlier one, by the first one of the later half
  pub halved : (t end rest half bit : ℕ) → IsCut costs t end rest → 0 < half → half ≤ rest → half + half ≤ rest + 1
      → ((t < first (at (end - half))) × (bit ≡ 1)) ⊎ ((first (at (end - half)) ≤ t) × (bit ≡ 0)) → IsCut costs t (end - half * bit) (rest - half)
  halved t end rest half bit cut some few most tells = elim tells [
    | inl greater ↦ rw greater.1 (record {
      left = omega (arith, cut.left);
      within = omega (arith, cut.within);
      before = λ k near. cut.before k (omega (arith, cut.left));
      after = λ k far inside. omega (arith, greater.0, (slopes (end - half) k (omega arith) inside).0);
    })
    | inr not_greater ↦ rw not_greater.1 (record {
      left = omega (arith, cut.left);
      within = omega (arith, cut.within);
      before = λ k near. omega (arith, not_greater.0, (slopes k (end - half) (omega arith) (omega (arith, cut.left, cut.within))).0);
      after = λ k far inside. cut.after k (omega arith) inside;
    })
  ]

  -- a staircase is in ascending order
  pub lists_stairs : ListsCosts costs costs
  lists_stairs = record {
    ascending = λ i j d before within. less_by_first (get_or costs i d) (get_or costs j d)
        (s.components i d (omega arith)) (s.components j d within) (s.descends i j d before within).0;
    exact = λ x. (λ h. h, λ h. h);
  }

  module _ (c : List ℕ) (long : length c ≡ 2) (i : ℕ) (cut : IsUpTo costs (first c) i) where
    -- of those with a first component that isn't greater the last one decides
    pub last_decides : IsCovered costs c ↔ ((0 < i) × AtMost (at (i - 1)) c)
    last_decides = (
      λ h.
          let k = h.contains.0 in
          let within = h.contains.1 in
          let below = (at_most_pair (at k) c (s.components k [] within) long).0 (covered_at costs c h) in
          let near : k < i = elim (cases_lt k i) [ inl near ↦ near | inr far ↦ absurd (omega (arith, below.0, cut.after k far within)) ] in
          let last : i - 1 < length costs = omega (arith, cut.within) in (
            omega arith,
            (at_most_pair (at (i - 1)) c (s.components (i - 1) [] last) long).1
                (cut.before (i - 1) (omega arith), omega (arith, below.1, (slopes k (i - 1) (omega arith) last).1)),
          ),
      λ below. covers_at costs c (i - 1) (omega (arith, below.0, cut.within)) below.1,
    )

    -- ---- a cost more

    module _ (uncovered : ¬ IsCovered costs c) (spares : All (λ x. ¬ Dominates c x) costs) where
      abbrev Falls : List ℕ → List ℕ → Type 0
      Falls a b = (first a < first b) × (second b < second a)

      -- at any place one component is greater than that of c, and one is less
      apart : (k : ℕ) → k < length costs → ((first c < first (at k)) ⊎ (second c < second (at k))) × ((first (at k) < first c) ⊎ (second (at k) < second c))
      apart k inside =
          let two = s.components k [] inside in
          let above : ¬ AtMost (at k) c = λ below. uncovered (covers_at costs c k inside below) in (
            not_at_most (at k) c two long above,
            not_at_most c (at k) long two
                (λ h. spares k [] inside (record { at_most = h; differs = λ same. above (subst (λ x. AtMost x c) same (AtMost-refl c)) })),
          )

      falls_to : (k : ℕ) → k < i → Falls (at k) c
      falls_to k near =
          let it = apart k (omega (arith, cut.within)) in
          let low = cut.before k (omega arith) in (omega arith, omega arith)

      falls_from : (k : ℕ) → i ≤ k → k < length costs → Falls c (at k)
      falls_from k far inside =
          let it = apart k inside in
          let high = cut.after k far inside in (omega arith, omega arith)

      lower : (k : ℕ) (d : List ℕ) → k < i → get_or (insert costs i c) k d ≡ at k
      lower k d near = get_or-insert_below costs i c d k near cut.within ∙ get_or_default costs k d [] (omega (arith, cut.within))

      middle : (k : ℕ) (d : List ℕ) → k ≡ i → get_or (insert costs i c) k d ≡ c
      middle k d here = rw here (get_or-insert_at costs i c d cut.within)

      upper : (k : ℕ) (d : List ℕ) → i < k → k ≤ length costs → get_or (insert costs i c) k d ≡ at (k - 1)
      upper k d far inside = subst (λ n. get_or (insert costs i c) n d ≡ at (k - 1)) (omega arith)
          (get_or-insert_above costs i c d (k - 1) (omega arith) cut.within ∙ get_or_default costs (k - 1) d [] (omega arith))

      -- keeps the staircase, where it is put in at the cut
      pub stairs_grow : IsStaircase (insert costs i c)
      stairs_grow = record {
        components = All-permutation (λ x. length x ≡ 2) (c ∷ costs) (insert costs i c) (IsPermutation-insert costs i c)
            (All-cons (λ x. length x ≡ 2) c costs long s.components);
        descends = λ a b d before within.
            let inside : b ≤ length costs = omega (arith, within, length-insert costs i c cut.within) in
            elim (cases_order b i) [
              | inl here ↦ rw (lower a d (omega arith), middle b d here) (falls_to a (omega arith))
              | inr (inl early) ↦ rw (lower a d (omega arith), lower b d early) (s.descends a b [] before (omega (arith, cut.within)))
              | inr (inr late) ↦ rw (upper b d late inside) (elim (cases_order a i) [
                | inl here ↦ rw (middle a d here) (falls_from (b - 1) (omega arith) (omega arith))
                | inr (inl early) ↦ rw (lower a d early) (s.descends a (b - 1) [] (omega arith) (omega arith))
                | inr (inr far) ↦ rw (upper a d far (omega arith)) (s.descends (a - 1) (b - 1) [] (omega arith) (omega arith))
              ])
            ];
      }

module _ {X : Type 0} (f : X → List ℕ) (xs : List X) (s : IsStaircase (map f xs)) (x : X) (t : ℕ) where
  -- where the least first component is greater than t, all are
  pub none_up_to : Some x ≡ slice_get xs 0 → t < first (f x) → IsUpTo (map f xs) t 0
  none_up_to is less = record {
    left = omega arith;
    within = omega arith;
    before = λ k near. absurd (omega arith);
    after = λ k far inside. omega (arith, less, ap first (got_at f xs 0 x (sym is)), (slopes s 0 k far inside).0);
  }

  -- where the greatest one isn't, none is
  pub all_up_to : Some x ≡ slice_get xs (length xs - 1) → first (f x) ≤ t → IsUpTo (map f xs) t (length xs)
  all_up_to is below =
      let long = length-map xs f in
      let here = ap first (got_at f xs (length xs - 1) x (sym is)) in
      record {
        left = omega arith;
        within = omega (arith, long);
        before = λ k near. omega (arith, below, here, (slopes s k (length xs - 1) (omega arith) (omega (arith, long))).0);
        after = λ k far inside. absurd (omega (arith, long));
      }
