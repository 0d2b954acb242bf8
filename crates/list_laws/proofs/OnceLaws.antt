-- What can be told, and lists of all that is so, each once.
use Rattle.std.proofs.Common.{◌≡◌, ◌≢◌, ◌⊎◌, ◌↔◌, ℕ, ◌<◌, List, [], ◌∷◌, ◌++◌, length, map, get_or, remove}
use Rattle.std.proofs.Common.{inl, inr, refl, sym, ap, subst, subst₂, ◌∙◌, arith, append_assoc, zero-add}
use Rattle.std.specs.Prelude.{AllPairs, Contains, IsPermutation}
use Rattle.std.specs.List.{flat_map, range_with_len}
use Rattle.std.proofs.lemmas.Bool.{cases_lt}
use Rattle.std.proofs.lemmas.List.{get_or_default, length-map}
use Rattle.std.proofs.lemmas.List.Edits.{get_or-remove_below, length-remove}
use Rattle.std.proofs.lemmas.List.Elements.{Contains-get_or, Contains-append_left, Contains-append_right, Contains-append_cases}
use Rattle.std.proofs.lemmas.List.FromFn.{length-range_with_len, get_or-range_with_len}
use Rattle.std.proofs.lemmas.List.Sorted.{Contains-permutation, length_permutation, IsPermutation-refl, IsPermutation-sym, IsPermutation-trans}
use Rattle.std.proofs.lemmas.List.Sorted.{IsPermutation-cons, IsPermutation-remove}
use Rattle.std.proofs.lemmas.List.Sorted.{IsPermutation-middle, IsPermutation-append_comm, IsPermutation-append_left, IsPermutation-append_right}
use Rattle.list_laws.proofs.Members.{in_none, in_first, in_rest, in_front, cases_in, in_map, of_map}
use Rattle.list_laws.proofs.Pairs.{pairs_none, pairs_rest, pair_with_first, pairs_cons, pairs_map, pigeonhole}
use Rattle.list_laws.specs.Sets.{SameMembers, ListsOnce, HasMoreThan}
use Rattle.list_laws.proofs.SetLaws.{same_by_permutation, longer, more_by_list, more_on}

-- it can be told whether P holds
abbrev pub IsDecidable : Type 0 → Type 0
IsDecidable P = P ⊎ (¬ P)

-- what is told of the parts is told of the whole
pub decidable_as : {P Q : Type 0} → (P → Q) → (Q → P) → IsDecidable P → IsDecidable Q
decidable_as to back decision = grind arith

pub decidable_not : {P : Type 0} → IsDecidable P → IsDecidable (¬ P)
decidable_not decision = grind arith

pub decidable_both : {P Q : Type 0} → IsDecidable P → IsDecidable Q → IsDecidable (P × Q)
decidable_both decision decidable_too = grind arith

pub decidable_either : {P Q : Type 0} → IsDecidable P → IsDecidable Q → IsDecidable (P ⊎ Q)
decidable_either decision decidable_too = grind arith

-- what is so exactly where another thing is: the other way round, and through a third
pub alike_back : {P Q : Type 0} → (P ↔ Q) → (Q ↔ P)
alike_back same = (same.1, same.0)

pub alike_through : {P Q R : Type 0} → (P ↔ Q) → (Q ↔ R) → (P ↔ R)
alike_through first second = grind arith

module _ {X : Type 0} where
  -- what a list contains that is made of others
  pub in_cons : (x : X) (xs : List X) (y : X) → Contains (x ∷ xs) y ↔ ((y ≡ x) ⊎ Contains xs y)
  in_cons x xs y = (cases_in x xs y, elim [ inl e ↦ in_front x xs y e | inr later ↦ in_rest x xs y later ])

  pub in_append : (xs ys : List X) (x : X) → Contains (xs ++ ys) x ↔ (Contains xs x ⊎ Contains ys x)
  in_append xs ys x = (Contains-append_cases xs ys x, elim [ inl h ↦ Contains-append_left xs ys x h | inr h ↦ Contains-append_right xs ys x h ])

  -- a list that contains nothing is empty
  pub empty_if_none : (xs : List X) → ((x : X) → ¬ Contains xs x) → xs ≡ []
  empty_if_none [] none = refl
  empty_if_none (x ∷ xs) none = absurd (none x (in_first x xs))

  -- a member of a list can be taken out
  pub taken_out : (xs : List X) (x : X) → Contains xs x → (ys : List X) × IsPermutation xs (x ∷ ys)
  taken_out xs x h = (remove xs h.0, IsPermutation-remove xs h.0 x h.1 (sym h.2))

  -- ---- lists of all that is so

  -- two lists of just what P holds of have the same members
  pub same_by : (P : X → Type 0) (xs ys : List X) → ((x : X) → Contains xs x ↔ P x) → ((x : X) → Contains ys x ↔ P x) → SameMembers xs ys
  same_by P xs ys first second x = let f = first x in let s = second x in grind arith

  -- a list of all that P holds of is one of all that Q holds of, if both hold of the same
  pub once_as : (P Q : X → Type 0) (xs : List X) → ((x : X) → P x ↔ Q x) → ListsOnce P xs → ListsOnce Q xs
  once_as P Q xs same lists = record { exact = λ x. let s = same x in let e = lists.exact x in grind arith; once = lists.once }

  -- whether P holds of a member of a list
  pub decidable_some : (P : X → Type 0) → ((x : X) → IsDecidable (P x)) → (xs : List X) → ((x : X) × Contains xs x × P x) ⊎ ((x : X) → Contains xs x → ¬ P x)
  decidable_some P decision [] = inr (λ x h. absurd (in_none x h))
  decidable_some P decision (y ∷ ys) = elim (decision y) [
    | inl here ↦ inl (y, in_first y ys, here)
    | inr not_here ↦ elim (decidable_some P decision ys) [
      | inl later ↦ inl (later.0, in_rest y ys later.0 later.1, later.2)
      | inr none ↦ inr (λ x h p. elim (cases_in y ys x h) [ inl e ↦ not_here (subst P e p) | inr later ↦ none x later p ])
    ]
  ]

  pub decidable_member : (P : X → Type 0) → ((x : X) → IsDecidable (P x)) → (xs : List X) → IsDecidable ((x : X) × Contains xs x × P x)
  decidable_member P decision xs = elim (decidable_some P decision xs) [ inl found ↦ inl found | inr none ↦ inr (λ (x, here, holds). none x here holds) ]

module _ {X : Type 0} (same : (x y : X) → IsDecidable (x ≡ y)) where
  -- whether a list contains x
  pub decidable_in : (xs : List X) (x : X) → IsDecidable (Contains xs x)
  decidable_in xs x = elim (decidable_some (λ y. y ≡ x) (λ y. same y x) xs) [
    | inl found ↦ inl (subst (Contains xs) found.2 found.1)
    | inr none ↦ inr (λ h. none x h refl)
  ]

  module _ (P : X → Type 0) (decision : (x : X) → IsDecidable (P x)) where
    -- those members of a list that P holds of, each once
    pub sift : (xs : List X) → (ys : List X) × ListsOnce (λ y. Contains xs y × P y) ys
    sift [] = ([], record { exact = λ y. (λ h. absurd (in_none y h), λ h. h.0); once = pairs_none ◌≢◌ })
    sift (x ∷ xs) =
        let (ys, lists) = sift xs in
        elim (decidable_both (decision x) (decidable_not (decidable_in ys x))) [
          | inl new ↦ (
            x ∷ ys,
            record {
              exact = λ y. with_more (lists.exact y) (in_cons x xs y) (in_cons x ys y) (λ e. subst P (sym e) new.0);
              once = pairs_cons ◌≢◌ x ys (λ y h e. new.1 (subst (Contains ys) (sym e) h)) lists.once;
            },
          )
          | inr old ↦ (
            ys,
            record {
              exact = λ y. without (lists.exact y) (in_cons x xs y)
                  (λ e h. elim (decidable_in ys x) [ inl there ↦ subst (Contains ys) (sym e) there | inr new ↦ absurd (old (subst P e h, new)) ]);
              once = lists.once;
            },
          )
        ] where
          with_more : {A B C D E H : Type 0} → (A ↔ (B × H)) → (C ↔ (E ⊎ B)) → (D ↔ (E ⊎ A)) → (E → H) → (D ↔ (C × H))
          with_more f g h here = grind arith

          without : {A B C E H : Type 0} → (A ↔ (B × H)) → (C ↔ (E ⊎ B)) → (E → H → A) → (A ↔ (C × H))
          without f g stays = grind arith

    -- all that P holds of, each once, where all of these stand in some list
    pub list_all : (xs : List X) → ((y : X) → P y → Contains xs y) → (ys : List X) × ListsOnce P ys
    list_all xs bound = let (ys, lists) = sift xs in (ys, once_as (λ y. Contains xs y × P y) P ys (λ y. (λ h. h.1, λ h. (bound y h, h))) lists)

-- ---- lists without repeats

module _ {X : Type 0} where
  -- what has no repeats has none in another order
  pub once_in_any_order : (xs ys : List X) → IsPermutation xs ys → AllPairs ◌≢◌ xs → AllPairs ◌≢◌ ys
  once_in_any_order xs ys moved distinct = λ i j d before within same.
      let x = get_or ys j d in
      let less = remove ys j in
      let out : IsPermutation ys (x ∷ less) = IsPermutation-remove ys j x within (get_or_default ys j d x within) in
      let shorter = length-remove ys j within in
      let again : get_or less i d ≡ x = get_or-remove_below ys j d i before within ∙ same in
      let there : Contains less x = subst (Contains less) again (Contains-get_or less i d (omega (arith, before, within, shorter))) in
      let each : (z : X) → Contains xs z → Contains less z = λ z h.
      elim (cases_in x less z (Contains-permutation ys (x ∷ less) z out (Contains-permutation xs ys z moved h))) [
        | inl e ↦ subst (Contains less) (sym e) there
        | inr other ↦ other
      ] in
      omega (arith, pigeonhole xs less distinct each, shorter, length_permutation xs ys moved)

  -- a list of all that P holds of, each once, is one in any order
  pub lists_in_any_order : (P : X → Type 0) (xs ys : List X) → IsPermutation xs ys → ListsOnce P xs → ListsOnce P ys
  lists_in_any_order P xs ys moved lists = record {
    exact = λ x. let e = lists.exact x in let m = same_by_permutation xs ys moved x in grind arith;
    once = once_in_any_order xs ys moved lists.once;
  }

  -- two lists, one behind the other
  pub pairs_append : (R : X → X → Type 0) (xs ys : List X) → AllPairs R xs → AllPairs R ys → ((x y : X) → Contains xs x → Contains ys y → R x y)
      → AllPairs R (xs ++ ys)
  pairs_append R [] ys first second across = second
  pairs_append R (x ∷ xs) ys first second across = pairs_cons R x (xs ++ ys)
      (λ y h. elim (Contains-append_cases xs ys y h) [ inl near ↦ pair_with_first R x xs first y near | inr far ↦ across x y (in_first x xs) far ])
      (pairs_append R xs ys (pairs_rest R x xs first) second (λ z y h. across z y (in_rest x xs z h)))

  -- what holds of any two members holds of each and each later one
  pub pairs_of_members : (R : X → X → Type 0) (xs : List X) → ((x y : X) → Contains xs x → Contains xs y → R x y) → AllPairs R xs
  pairs_of_members R xs each = λ i j d before within.
      each (get_or xs i d) (get_or xs j d) (Contains-get_or xs i d (omega (arith, before, within))) (Contains-get_or xs j d within)

  -- both parts of a list without repeats have none, and share nothing
  pub once_apart : (xs ys : List X) → AllPairs ◌≢◌ (xs ++ ys) → AllPairs ◌≢◌ ys × ((x : X) → Contains xs x → ¬ Contains ys x)
  once_apart [] ys distinct = (distinct, λ x h. absurd (in_none x h))
  once_apart (z ∷ zs) ys distinct =
      let (second, across) = once_apart zs ys (pairs_rest ◌≢◌ z (zs ++ ys) distinct) in (
        second,
        λ x h there. elim (cases_in z zs x h) [
          | inl e ↦ pair_with_first ◌≢◌ z (zs ++ ys) distinct x (Contains-append_right zs ys x there) (sym e)
          | inr later ↦ across x later there
        ],
      )

  -- what is left of a list of all that is so
  pub rest_once : (P Q : X → Type 0) (x : X) (xs : List X) → ((y : X) → Q y ↔ (P y × (y ≢ x))) → ListsOnce P (x ∷ xs) → ListsOnce Q xs
  rest_once P Q x xs left lists = record {
    exact = λ y. others (in_cons x xs y) (lists.exact y) (λ h e. pair_with_first ◌≢◌ x xs lists.once y h (sym e)) (left y);
    once = pairs_rest ◌≢◌ x xs lists.once;
  } where
    others : {W R E H L : Type 0} → (W ↔ (E ⊎ R)) → (W ↔ H) → (R → ¬ E) → (L ↔ (H × (¬ E))) → (R ↔ L)
    others f g apart h = grind arith

  -- two of them, one behind the other
  pub lists_append : (P Q R : X → Type 0) (xs ys : List X) → ((x : X) → R x ↔ (P x ⊎ Q x)) → ((x : X) → P x → ¬ Q x)
      → ListsOnce P xs → ListsOnce Q ys → ListsOnce R (xs ++ ys)
  lists_append P Q R xs ys either apart first second = record {
    exact = λ x. joined (in_append xs ys x) (either x) (first.exact x) (second.exact x);
    once = pairs_append ◌≢◌ xs ys first.once second.once (λ x y h k e. apart y (subst P e ((first.exact x).0 h)) ((second.exact y).0 k));
  } where
    joined : {W A B C D H : Type 0} → (W ↔ (A ⊎ B)) → (H ↔ (C ⊎ D)) → (A ↔ C) → (B ↔ D) → (W ↔ H)
    joined f g h k = grind arith

module _ {X : Type 0} (same : (x y : X) → IsDecidable (x ≡ y)) where
  -- the members of a list, each once
  pub members_once : (xs : List X) → (ys : List X) × ListsOnce (Contains xs) ys
  members_once xs = list_all same (Contains xs) (decidable_in same xs) xs (λ y there. there)

  -- whether a list contains more than n different things
  pub decidable_more : (n : ℕ) (xs : List X) → IsDecidable (HasMoreThan n xs)
  decidable_more n xs =
      let (ys, lists) = members_once xs in
      elim (cases_lt n (length ys)) [
        | inl below ↦ inl (more_by_list n xs ys lists.once (λ y there. (lists.exact y).0 there) below)
        | inr above ↦ inr (λ more. omega (arith, above, longer n ys (more_on n xs ys (λ y there. (lists.exact y).1 there) more)))
      ]

  -- a list has as many members as it has images
  pub more_of_map : {Y : Type 0} (f : X → Y) (n : ℕ) (xs : List X) → HasMoreThan n (map f xs) → HasMoreThan n xs
  more_of_map {Y} f n xs more =
      let (ys, lists) = members_once xs in
      let images : (y : Y) → Contains (map f xs) y → Contains (map f ys) y = λ y there.
      let (x, x_there, e) = of_map f xs y there in subst (Contains (map f ys)) (sym e) (in_map f ys x ((lists.exact x).1 x_there)) in
      let long = longer n (map f ys) (more_on n (map f xs) (map f ys) images more) in
      more_by_list n xs ys lists.once (λ y there. (lists.exact y).0 there) (omega (arith, long, length-map ys f))

-- the images of all that P holds of
pub lists_images : {X Y : Type 0} (f : X → Y) (P : X → Type 0) (Q : Y → Type 0) (xs : List X) → ((x z : X) → f x ≡ f z → x ≡ z)
    → ((x : X) → P x → Q (f x)) → ((y : Y) → Q y → (x : X) × P x × (y ≡ f x)) → ListsOnce P xs → ListsOnce Q (map f xs)
lists_images f P Q xs one to from lists = record {
  exact = λ y. (
    λ h. let (x, there, e) = of_map f xs y h in subst Q (sym e) (to x ((lists.exact x).0 there)),
    λ q. let (x, p, e) = from y q in subst (Contains (map f xs)) (sym e) (in_map f xs x ((lists.exact x).1 p)),
  );
  once = pairs_map ◌≢◌ ◌≢◌ f (λ x z other e. other (one x z e)) xs lists.once;
}

-- ---- lists of all that is so, in another order

-- the numbers below n
pub range_once : (n : ℕ) → ListsOnce (λ i. i < n) (range_with_len 0 n)
range_once n = record {
  exact = λ i. (
    λ h. let k = h.0 in let within = h.1 in let at = h.2 in omega (arith, long, get_or-range_with_len 0 n k i (omega (arith, within, long))),
    λ below. (i, omega (arith, long), get_or-range_with_len 0 n i i below ∙ zero-add i),
  );
  once = λ i j d before within same.
      omega (arith, get_or-range_with_len 0 n i d (omega (arith, before, within, long)), get_or-range_with_len 0 n j d (omega (arith, within, long)));
} where
  long : length (range_with_len 0 n) ≡ n
  long = length-range_with_len 0 n

module _ {X Y : Type 0} (f : X → List Y) where
  -- a member can be taken out, and what comes from it
  flat_taken : (ys : List X) (x : X) → Contains ys x → (zs : List X) × IsPermutation ys (x ∷ zs) × IsPermutation (flat_map f ys) (f x ++ flat_map f zs)
  flat_taken [] x h = absurd (in_none x h)
  flat_taken (y ∷ ys) x h = elim (cases_in y ys x h) [
    | inl e ↦ (
      ys,
      subst (λ z. IsPermutation (y ∷ ys) (z ∷ ys)) (sym e) (IsPermutation-refl (y ∷ ys)),
      subst (λ z. IsPermutation (f y ++ flat_map f ys) (f z ++ flat_map f ys)) (sym e) (IsPermutation-refl (f y ++ flat_map f ys)),
    )
    | inr later ↦
        let (zs, out, flat) = flat_taken ys x later in
        let rest = flat_map f zs in
        let swapped = subst₂ IsPermutation (append_assoc (f y) (f x) rest) (append_assoc (f x) (f y) rest)
        (IsPermutation-append_left rest (f y ++ f x) (f x ++ f y) (IsPermutation-append_comm (f y) (f x))) in (
          y ∷ zs,
          IsPermutation-trans (y ∷ ys) (y ∷ x ∷ zs) (x ∷ y ∷ zs) (IsPermutation-cons y ys (x ∷ zs) out) (IsPermutation-middle (y ∷ []) x zs),
          IsPermutation-trans (f y ++ flat_map f ys) (f y ++ (f x ++ rest)) (f x ++ (f y ++ rest))
              (IsPermutation-append_right (f y) (flat_map f ys) (f x ++ rest) flat) swapped,
        )
  ]

  -- what comes from all that P holds of, in two orders
  pub flat_in_any_order : (P : X → Type 0) (xs ys : List X) → ListsOnce P xs → ListsOnce P ys → IsPermutation (flat_map f xs) (flat_map f ys)
  flat_in_any_order P [] ys first second =
      let empty = empty_if_none ys (λ y h. in_none y ((first.exact y).1 ((second.exact y).0 h))) in
      subst (λ zs. IsPermutation [] (flat_map f zs)) (sym empty) (IsPermutation-refl [])
  flat_in_any_order P (x ∷ xs) ys first second =
      let (zs, out, flat) = flat_taken ys x ((second.exact x).1 ((first.exact x).0 (in_first x xs))) in
      let left = λ (zs : List X). rest_once P (λ y. P y × (y ≢ x)) x zs (λ y. (λ h. h, λ h. h)) in
      let rest = flat_in_any_order (λ y. P y × (y ≢ x)) xs zs (left xs first) (left zs (lists_in_any_order P ys (x ∷ zs) out second)) in
      IsPermutation-trans (f x ++ flat_map f xs) (f x ++ flat_map f zs) (flat_map f ys)
      (IsPermutation-append_right (f x) (flat_map f xs) (flat_map f zs) rest) (IsPermutation-sym (flat_map f ys) (f x ++ flat_map f zs) flat)

-- two lists of all that P holds of, each once, are one in another order
pub lists_permute : {X : Type 0} (P : X → Type 0) (xs ys : List X) → ListsOnce P xs → ListsOnce P ys → IsPermutation xs ys
lists_permute P xs ys first second = subst₂ IsPermutation (singles xs) (singles ys) (flat_in_any_order (λ x. x ∷ []) P xs ys first second) where
  singles : {X : Type 0} (xs : List X) → flat_map (λ x. x ∷ []) xs ≡ xs
  singles [] = refl
  singles (x ∷ xs) = ap (λ zs. x ∷ zs) (singles xs)
