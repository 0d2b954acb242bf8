-- Sets as lists: permutations, and how many members there are.
use Rattle.std.proofs.Common.{◌≡◌, ◌≢◌, ℕ, ◌+◌, ◌<◌, List, [], ◌∷◌, length, take, ◌⊎◌, ◌↔◌, inl, inr, sym, subst, arith, length-take}
use Rattle.std.specs.Prelude.{AllPairs, Contains, IsPermutation}
use Rattle.std.proofs.lemmas.List.{get_or-take}
use Rattle.std.proofs.lemmas.List.Elements.{All-take}
use Rattle.std.proofs.lemmas.List.Sorted.{Contains-permutation, IsPermutation-sym}
use Rattle.list_laws.proofs.Members.{in_none, in_first, in_rest, cases_in, each_in, all_from_in}
use Rattle.list_laws.proofs.Pairs.{pigeonhole}
use Rattle.list_laws.specs.Sets.{SameMembers, HasMoreThan}

module _ {X : Type 0} where
  -- what a list has, its permutation has
  pub same_by_permutation : (xs ys : List X) → IsPermutation xs ys → SameMembers ys xs
  same_by_permutation xs ys moved x = (Contains-permutation ys xs x (IsPermutation-sym xs ys moved), Contains-permutation xs ys x moved)

  -- what is a permutation of a list with one more element gains it
  pub gains_by_permutation : (x : X) (xs ys : List X) → IsPermutation (x ∷ xs) ys → (y : X) → Contains ys y ↔ (Contains xs y ⊎ (y ≡ x))
  gains_by_permutation x xs ys moved y = (
    λ h. elim (cases_in x xs y (Contains-permutation ys (x ∷ xs) y (IsPermutation-sym (x ∷ xs) ys moved) h)) [ inl same ↦ inr same | inr old ↦ inl old ],
    elim [
      | inl old ↦ Contains-permutation (x ∷ xs) ys y moved (in_rest x xs y old)
      | inr same ↦ Contains-permutation (x ∷ xs) ys y moved (subst (Contains (x ∷ xs)) (sym same) (in_first x xs))
    ],
  )

  -- an empty list contains nothing
  pub none_of_empty : (xs : List X) → xs ≡ [] → (x : X) → ¬ Contains xs x
  none_of_empty xs empty x h = in_none x (subst (λ zs. Contains zs x) empty h)

  -- a list with more members than n is longer than n
  pub longer : (n : ℕ) (xs : List X) → HasMoreThan n xs → n < length xs
  longer n xs more = omega (arith, more.more, pigeonhole more.members xs more.distinct (λ x h. each_in (Contains xs) more.members more.each x h))

  -- a list without repeats gives as many members as it is long
  pub more_by_list : (n : ℕ) (xs ys : List X) → AllPairs ◌≢◌ ys → ((y : X) → Contains ys y → Contains xs y) → n < length ys → HasMoreThan n xs
  more_by_list n xs ys distinct each long = record {
    members = take (n + 1) ys;
    more = omega (arith, length-take (n + 1) ys);
    distinct = λ i j d before within.
        let below : j < n + 1 = omega (arith, length-take (n + 1) ys, within) in
        let before_too : i < n + 1 = omega (arith, below, before) in
        rw (get_or-take (n + 1) ys i d before_too, get_or-take (n + 1) ys j d below) (distinct i j d before (omega (arith, long, below)));
    each = All-take (Contains xs) (n + 1) ys (all_from_in (Contains xs) ys each);
  }

  -- a list that contains more contains as many
  pub more_on : (n : ℕ) (xs ys : List X) → ((x : X) → Contains xs x → Contains ys x) → HasMoreThan n xs → HasMoreThan n ys
  more_on n xs ys on more =
      more_by_list n ys more.members more.distinct (λ y there. on y (each_in (Contains xs) more.members more.each y there)) (omega (arith, more.more))
