-- A pair of components is put into a staircase, at its place.
use Rattle.std.proofs.Common.{◌≡◌, ◌↔◌, ◌⊎◌, ℕ, ◌+◌, ◌-◌, ◌<◌, ◌≤◌, List, [], ◌∷◌, ◌++◌, length, get_or, map, take, drop, inl, inr, sym, subst, subst₂, ◌∙◌, arith, length-drop}
use Rattle.std.specs.Prelude.{AllPairs, Contains}
use Rattle.std.specs.List.{splice}
use Rattle.std.proofs.lemmas.Bool.{cases_lt}
use Rattle.std.proofs.lemmas.List.{drop-map, map-append, take-map, get_or_default, get_or-drop, get_or-take, length-take}
use Rattle.std.proofs.lemmas.List.Elements.{All-append, All-cons, All-drop, All-take, Contains-append_cases, Contains-append_left, Contains-append_right, Contains-get_or}
use Rattle.std.proofs.lemmas.List.Sorted.{IsPermutation-middle, IsPermutation-sym}
use Rattle.list_laws.proofs.Members.{all_from_in, cases_in}
use Rattle.list_laws.proofs.OnceLaws.{pairs_append}
use Rattle.list_laws.proofs.Pairs.{pairs_cons, pairs_take}
use Rattle.list_laws.proofs.SetLaws.{same_by_permutation}
use Rattle.cost_vector.specs.Costs.{AtMost}
use Rattle.settled_front.specs.Fronts.{IsCovered}
use Rattle.settled_front.specs.Staircase.{IsStaircase, IsUpTo, first, second}
use Rattle.settled_front.proofs.Covers.{covers_at}
use Rattle.settled_front.proofs.Stairs.{last_decides}
use Rattle.settled_list.specs.Stairs.{IsPlaceFor, PutsIn, SecondsFit}
use Rattle.settled_list.specs.declared.staircase.Rest.{Rest}

-- a pair is at most another exactly if both components are
pub pair_at_most : (a b : List ℕ) → length a ≡ 2 → length b ≡ 2 → AtMost a b ↔ ((first a ≤ first b) × (second a ≤ second b))
pair_at_most (x ∷ y ∷ []) (v ∷ w ∷ []) long long_too = (λ h. (h.0, h.1.0), λ h. (h.0, (h.1, tt)))
pair_at_most _ _ long long_too = absurd (omega arith)

-- what stands for others is seen so too
pub map-splice : {X Y : Type 0} (f : X → Y) (xs : List X) (i j : ℕ) (x : X) → map f (splice xs i j (x ∷ [])) ≡ splice (map f xs) i j (f x ∷ [])
map-splice f xs i j x = map-append f (take i xs) (x ∷ drop j xs) ∙ (λ t. sym (take-map f i xs) t ++ f x ∷ sym (drop-map f j xs) t)

-- a rest that fits joins those that do
pub seconds_put : {P : Type 0} (value : P → ℕ) (bound : ℕ) (rests : List (Rest P)) (r : Rest P) (start end : ℕ) → SecondsFit value bound rests
    → value r.second < bound → SecondsFit value bound (splice rests start end (r ∷ []))
seconds_put {P} value bound rests r start end fit fits =
    let Fits = λ (x : Rest P). value x.second < bound in
    All-append Fits (take start rests) (r ∷ drop end rests) (All-take Fits start rests fit)
    (All-cons Fits r (drop end rests) fits (All-drop Fits end rests fit))

-- of those with a first component that isn't greater the last one decides, by its second
pub last_second_of_pairs : {pairs : List (List ℕ)} → IsStaircase pairs → (r : List ℕ) → length r ≡ 2 → (place : ℕ) → IsUpTo pairs (first r) place → 0 < place
    → IsCovered pairs r ↔ (second (get_or pairs (place - 1) []) ≤ second r)
last_second_of_pairs {pairs} s r long place cut some =
    let last = get_or pairs (place - 1) [] in
    let decides = last_decides s r long place cut in
    let both = pair_at_most last r (s.components (place - 1) [] (omega (arith, cut.within, some))) long in
    (λ h. (both.0 (decides.0 h).1).1, λ h. decides.1 (some, both.1 (cut.before (place - 1) (omega (arith, some)), h)))

module _ {X : Type 0} (xs : List X) (n : ℕ) where
  -- the members before a place
  of_take : (x : X) → Contains (take n xs) x → (k : ℕ) × (k < n) × (k < length xs) × (get_or xs k x ≡ x)
  of_take x (k, within, is) = elim (cases_lt k n) [
    | inl near ↦ (k, near, omega (arith, within, length-take n xs), sym (get_or-take n xs k x near) ∙ is)
    | inr far ↦ absurd (omega (arith, within, length-take n xs, far))
  ]

  in_take : (k : ℕ) (d : X) → k < n → k < length xs → Contains (take n xs) (get_or xs k d)
  in_take k d near within = (k, omega (arith, near, within, length-take n xs), get_or-take n xs k (get_or xs k d) near ∙ get_or_default xs k (get_or xs k d) d within)

  -- and from it on
  of_drop : (x : X) → Contains (drop n xs) x → (k : ℕ) × (n ≤ k) × (k < length xs) × (get_or xs k x ≡ x)
  of_drop x (k, within, is) = (n + k, omega arith, omega (arith, within, length-drop n xs), sym (get_or-drop n xs k x) ∙ is)

  in_drop : (k : ℕ) (d : X) → n ≤ k → k < length xs → Contains (drop n xs) (get_or xs k d)
  in_drop k d far within = (
    k - n,
    omega (arith, far, within, length-drop n xs),
    get_or-drop n xs (k - n) (get_or xs k d) ∙ subst (λ i. get_or xs i (get_or xs k d) ≡ get_or xs k d) (omega (arith, far))
        (get_or_default xs k (get_or xs k d) d within),
  )

  pairs_drop : (R : X → X → Type 0) → AllPairs R xs → AllPairs R (drop n xs)
  pairs_drop R pairs = λ i j d before within.
      subst₂ R (sym (get_or-drop n xs i d)) (sym (get_or-drop n xs j d)) (pairs (n + i) (n + j) d (omega (arith, before)) (omega (arith, within, length-drop n xs)))

module _ {pairs : List (List ℕ)} (s : IsStaircase pairs) (r : List ℕ) (long : length r ≡ 2) (start end : ℕ) (place : IsPlaceFor pairs r start end) where
  abbrev at : ℕ → List ℕ
  at k = get_or pairs k []

  abbrev left : List (List ℕ)
  left = take start pairs ++ drop end pairs

  below : (k : ℕ) → k < start → ¬ AtMost r (at k)
  below k near h = omega (arith, place.before k near, ((pair_at_most r (at k) long (s.components k [] (omega (arith, near, place.order, place.within)))).0 h).0)

  behind : (k : ℕ) → end ≤ k → k < length pairs → ¬ AtMost r (at k)
  behind k far within h = omega (arith, place.behind k far within, ((pair_at_most r (at k) long (s.components k [] within)).0 h).1)

  in_left : (k : ℕ) (d : List ℕ) → (k < start) ⊎ (end ≤ k) → k < length pairs → Contains left (get_or pairs k d)
  in_left k d outside within = elim outside [
    | inl near ↦ Contains-append_left (take start pairs) (drop end pairs) (get_or pairs k d) (in_take pairs start k d near within)
    | inr far ↦ Contains-append_right (take start pairs) (drop end pairs) (get_or pairs k d) (in_drop pairs end k d far within)
  ]

  of_left : (x : List ℕ) → Contains left x → (k : ℕ) × ((k < start) ⊎ (end ≤ k)) × (k < length pairs) × (at k ≡ x)
  of_left x there = elim (Contains-append_cases (take start pairs) (drop end pairs) x there) [
    | inl near ↦ let it = of_take pairs start x near in (it.0, inl it.1, it.2, get_or_default pairs it.0 [] x it.2 ∙ it.3)
    | inr far ↦ let it = of_drop pairs end x far in (it.0, inr it.1, it.2, get_or_default pairs it.0 [] x it.2 ∙ it.3)
  ]

  stays : (x : List ℕ) → Contains left x → ¬ AtMost r x
  stays x there =
      let it = of_left x there in
      subst (λ y. ¬ AtMost r y) it.3 (elim it.1 [ inl near ↦ below it.0 near | inr far ↦ behind it.0 far it.2 ])

  -- what it is at most goes
  pub puts_in : PutsIn pairs r (splice pairs start end (r ∷ []))
  puts_in = record {
    left = left;
    without = record {
      old = all_from_in (Contains pairs) left (λ x there. let it = of_left x there in subst (Contains pairs) it.3 (Contains-get_or pairs it.0 [] it.2));
      kept = λ k d within. elim (cases_lt k start) [
        | inl near ↦ inr (in_left k d (inl near) within)
        | inr past ↦ elim (cases_lt k end) [
          | inl between ↦ inl (subst (AtMost r) (get_or_default pairs k [] d within) (place.between k past between))
          | inr far ↦ inr (in_left k d (inr far) within)
        ]
      ];
      gone = all_from_in (λ x. ¬ AtMost r x) left stays;
    };
    exact = same_by_permutation (r ∷ left) (splice pairs start end (r ∷ []))
        (IsPermutation-sym (splice pairs start end (r ∷ [])) (r ∷ left) (IsPermutation-middle (take start pairs) r (drop end pairs)));
  }

  module _ (uncovered : ¬ IsCovered pairs r) where
    abbrev Falls : List ℕ → List ℕ → Type 0
    Falls a b = (first a < first b) × (second b < second a)

    not_at_most : (k : ℕ) → k < length pairs → ¬ ((first (at k) ≤ first r) × (second (at k) ≤ second r))
    not_at_most k within = λ h. uncovered (covers_at pairs r k within ((pair_at_most (at k) r (s.components k [] within) long).1 h))

    falls_to : (k : ℕ) → k < start → Falls (at k) r
    falls_to k near =
        let within : k < length pairs = omega (arith, near, place.order, place.within) in
        let less = place.before k near in
        elim (cases_lt (second r) (second (at k))) [
          | inl falls ↦ (less, falls)
          | inr not ↦ absurd (not_at_most k within (omega (arith, less), not))
        ]

    falls_from : (k : ℕ) → end ≤ k → k < length pairs → Falls r (at k)
    falls_from k far within =
        let less = place.behind k far within in
        elim (cases_lt (first r) (first (at k))) [
          | inl rises ↦ (rises, less)
          | inr not ↦ absurd (not_at_most k within (not, omega (arith, less)))
        ]

    -- what comes keeps the staircase
    pub stairs_put : IsStaircase (splice pairs start end (r ∷ []))
    stairs_put = record {
      components = All-append (λ x. length x ≡ 2) (take start pairs) (r ∷ drop end pairs) (All-take (λ x. length x ≡ 2) start pairs s.components)
          (All-cons (λ x. length x ≡ 2) r (drop end pairs) long (All-drop (λ x. length x ≡ 2) end pairs s.components));
      descends = pairs_append Falls (take start pairs) (r ∷ drop end pairs) (pairs_take Falls start pairs s.descends)
          (pairs_cons Falls r (drop end pairs)
          (λ y there. let it = of_drop pairs end y there in subst (Falls r) (get_or_default pairs it.0 [] y it.2 ∙ it.3) (falls_from it.0 it.1 it.2))
          (pairs_drop pairs end Falls s.descends)) across;
    } where
      across : (x y : List ℕ) → Contains (take start pairs) x → Contains (r ∷ drop end pairs) y → Falls x y
      across x y there there_too =
          let it = of_take pairs start x there in
          let is = get_or_default pairs it.0 [] x it.2 ∙ it.3 in
          elim (cases_in r (drop end pairs) y there_too) [
            | inl last ↦ subst₂ Falls is (sym last) (falls_to it.0 it.1)
            | inr later ↦
                let other = of_drop pairs end y later in
                subst₂ Falls is (get_or_default pairs other.0 [] y other.2 ∙ other.3)
                (s.descends it.0 other.0 [] (omega (arith, it.1, other.1, place.order)) other.2)
          ]
