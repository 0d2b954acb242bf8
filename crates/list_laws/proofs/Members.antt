-- Members of lists: the steps of an induction, and the members of lists that are made from lists.
use Rattle.std.proofs.Common.{◌≡◌, ℕ, zero, suc, Bool, true, List, [], ◌∷◌, ◌++◌, map, get_or, Option, Some, None, ◌⊎◌, ◌↔◌, inl, inr, refl, sym, ap, subst, ◌∙◌, arith}
use Rattle.std.specs.Prelude.{slice_get, filter, All, Any, Contains}
use Rattle.std.specs.List.{filter_map, cons_option, flat_map}
use Rattle.std.proofs.lemmas.Bool.{cases_Bool, true≢false}
use Rattle.std.proofs.lemmas.Option.{slice_get_within, get_or_from_slice_get}
use Rattle.std.proofs.lemmas.List.Elements.{All-contains, All-filter, All-contains_itself, filter_passes, Contains-push_cases, Contains-get_or, Contains-append_left, Contains-append_right}

-- ---- the steps of an induction: these alone know how std says that a list contains something

module _ {X : Type 0} where
  -- the empty list has no member
  pub in_none : (x : X) → ¬ Contains [] x
  in_none x h = omega (arith, h.1)

  -- the first element is one
  pub in_first : (x : X) (xs : List X) → Contains (x ∷ xs) x
  in_first x xs = (0, omega arith, refl)

  -- so is each member of the rest
  pub in_rest : (y : X) (xs : List X) (x : X) → Contains xs x → Contains (y ∷ xs) x
  in_rest y xs x h = (suc h.0, omega (arith, h.1), h.2)

  -- and what is the same as the first
  pub in_front : (y : X) (xs : List X) (x : X) → x ≡ y → Contains (y ∷ xs) x
  in_front y xs x same = (0, omega arith, sym same)

  -- a member is the first, or one of the rest
  pub cases_in : (y : X) (xs : List X) (x : X) → Contains (y ∷ xs) x → (x ≡ y) ⊎ Contains xs x
  cases_in y xs x (zero, within, is) = inl (sym is)
  cases_in y xs x (suc i, within, is) = inr (i, omega (arith, within), is)

  -- both directions at once
  pub in_either : (y : X) (xs : List X) (x : X) → Contains (y ∷ xs) x ↔ ((x ≡ y) ⊎ Contains xs x)
  in_either y xs x = (cases_in y xs x, λ either. elim either [ inl same ↦ in_front y xs x same | inr there ↦ in_rest y xs x there ])

  -- a list of one element has no other member
  pub in_one : (y x : X) → Contains (y ∷ []) x → x ≡ y
  in_one y x h = elim (cases_in y [] x h) [ inl same ↦ same | inr none ↦ absurd (in_none x none) ]

  -- ---- what holds of each element

  -- what holds of each element holds of a member
  pub each_in : (P : X → Type 0) (xs : List X) → All P xs → (x : X) → Contains xs x → P x
  each_in P xs all x h = All-contains P xs x all h

  -- what holds of each member holds of each element
  pub all_from_in : (P : X → Type 0) (xs : List X) → ((x : X) → Contains xs x → P x) → All P xs
  all_from_in P xs each = λ k d within. each (get_or xs k d) (Contains-get_or xs k d within)

  -- what holds of each element holds of one that was read
  pub all_got : (P : X → Type 0) (xs : List X) (i : ℕ) (x : X) → All P xs → slice_get xs i ≡ Some x → P x
  all_got P xs i x all e = each_in P xs all x (i, slice_get_within xs i x e, get_or_from_slice_get xs i x x e)

  -- the last one that was added, or one of before
  pub cases_push : (xs : List X) (y x : X) → Contains (xs ++ y ∷ []) x → Contains xs x ⊎ (x ≡ y)
  cases_push xs y x h = elim (Contains-push_cases xs y x h) [ inl old ↦ inl old | inr last ↦ inr (sym last) ]

  -- ---- what holds of some element

  -- a member that it holds of
  pub any_in : (P : X → Type 0) (xs : List X) (x : X) → Contains xs x → P x → Any P xs
  any_in P xs x h holds = (h.0, x, h.1, h.2, holds)

  -- an element that it holds of
  pub found_in : (P : X → Type 0) (xs : List X) → Any P xs → (x : X) × Contains xs x × P x
  found_in P xs any = (any.1, (any.0, any.2, any.3), any.4)

-- ---- lists made from lists

module _ {X : Type 0} (p : X → Bool) where
  -- a member that passes the test is kept
  pub in_filter : (xs : List X) (x : X) → Contains xs x → p x ≡ true → Contains (filter p xs) x
  in_filter [] x h passes = absurd (in_none x h)
  in_filter (z ∷ zs) x h passes = elim (cases_Bool (p z)) [
    | inl kept ↦ rw kept (elim (cases_in z zs x h) [
      | inl e ↦ in_front z (filter p zs) x e
      | inr more ↦ in_rest z (filter p zs) x (in_filter zs x more passes)
    ])
    | inr gone ↦ rw gone (elim (cases_in z zs x h) [ inl e ↦ absurd (true≢false (sym passes ∙ ap p e ∙ gone)) | inr more ↦ in_filter zs x more passes ])
  ]

  -- what is kept is a member, and passes the test
  pub of_filter : (xs : List X) (x : X) → Contains (filter p xs) x → Contains xs x × (p x ≡ true)
  of_filter xs x h = (
    each_in (Contains xs) (filter p xs) (All-filter p (Contains xs) xs (All-contains_itself xs)) x h,
    each_in (λ y. p y ≡ true) (filter p xs) (filter_passes p xs) x h,
  )

in_cons_option : {Y : Type 0} (o : Option Y) (ys : List Y) (y : Y) → Contains ys y → Contains (cons_option o ys) y
in_cons_option None ys y h = h
in_cons_option (Some v) ys y h = in_rest v ys y h

of_cons_option : {Y : Type 0} (o : Option Y) (ys : List Y) (y : Y) → Contains (cons_option o ys) y → (o ≡ Some y) ⊎ Contains ys y
of_cons_option None ys y h = inr h
of_cons_option {Y} (Some v) ys y h = elim (cases_in v ys y h) [ inl e ↦ inl (ap (λ (w : Y). Some w) (sym e)) | inr more ↦ inr more ]

module _ {X Y : Type 0} where
  -- a member gives one of the images
  pub in_map : (f : X → Y) (xs : List X) (x : X) → Contains xs x → Contains (map f xs) (f x)
  in_map f [] x h = absurd (in_none x h)
  in_map f (z ∷ zs) x h = elim (cases_in z zs x h) [
    | inl e ↦ in_front (f z) (map f zs) (f x) (ap f e)
    | inr more ↦ in_rest (f z) (map f zs) (f x) (in_map f zs x more)
  ]

  -- each image is that of a member
  pub of_map : (f : X → Y) (xs : List X) (y : Y) → Contains (map f xs) y → (x : X) × Contains xs x × (y ≡ f x)
  of_map f [] y h = absurd (in_none y h)
  of_map f (z ∷ zs) y h = elim (cases_in (f z) (map f zs) y h) [
    | inl e ↦ (z, in_first z zs, e)
    | inr more ↦ let rest = of_map f zs y more in (rest.0, in_rest z zs rest.0 rest.1, rest.2)
  ]

  -- a member that gives something gives one of the results
  pub in_filter_map : (f : X → Option Y) (xs : List X) (x : X) (y : Y) → Contains xs x → f x ≡ Some y → Contains (filter_map f xs) y
  in_filter_map f [] x y h gives = absurd (in_none x h)
  in_filter_map f (z ∷ zs) x y h gives = elim (cases_in z zs x h) [
    | inl e ↦ subst (λ o. Contains (cons_option o (filter_map f zs)) y) (sym (ap f (sym e) ∙ gives)) (in_first y (filter_map f zs))
    | inr more ↦ in_cons_option (f z) (filter_map f zs) y (in_filter_map f zs x y more gives)
  ]

  -- each result is given by a member
  pub of_filter_map : (f : X → Option Y) (xs : List X) (y : Y) → Contains (filter_map f xs) y → (x : X) × Contains xs x × (f x ≡ Some y)
  of_filter_map f [] y h = absurd (in_none y h)
  of_filter_map f (z ∷ zs) y h = elim (of_cons_option (f z) (filter_map f zs) y h) [
    | inl first ↦ (z, in_first z zs, first)
    | inr more ↦ let rest = of_filter_map f zs y more in (rest.0, in_rest z zs rest.0 rest.1, rest.2)
  ]

-- what f makes of an element of each of two lists
abbrev pub products : {X Y Z : Type 0} → (X → Y → Z) → List X → List Y → List Z
products f xs ys = flat_map (λ x. map (f x) ys) xs

pub in_products : {X Y Z : Type 0} (f : X → Y → Z) (xs : List X) (ys : List Y) (x : X) (y : Y) → Contains xs x → Contains ys y
    → Contains (products f xs ys) (f x y)
in_products f [] ys x y there too = absurd (in_none x there)
in_products f (z ∷ zs) ys x y there too = elim (cases_in z zs x there) [
  | inl same ↦ Contains-append_left (map (f z) ys) (products f zs ys) (f x y) (subst (λ u. Contains (map (f u) ys) (f x y)) same (in_map (f x) ys y too))
  | inr later ↦ Contains-append_right (map (f z) ys) (products f zs ys) (f x y) (in_products f zs ys x y later too)
]
