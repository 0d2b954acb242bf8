-- What leaves a queue because it is spent.
use Rattle.std.proofs.Common.{inl, inr, List, ◌∷◌, ◌++◌, map, IsPermutation, All, sym, subst, arith}
use Rattle.std.proofs.lemmas.List.{length-append}
use Rattle.std.proofs.lemmas.List.Elements.{Contains-append_cases, Contains-append_left, Contains-append_right}
use Rattle.std.proofs.lemmas.List.Sorted.{Contains-permutation, IsPermutation-sym, length_permutation}
use Rattle.list_laws.proofs.Members.{all_from_in, cases_in, each_in, in_map, in_rest}
use Rattle.waiting_item.specs.Waiting.{Spot, Waiting}
use Rattle.sweep_parts.specs.Leaving.{LosesSpent}

module _ (Spent : Spot → Type 0) where
  pub loses_none : (xs : List Waiting) → LosesSpent Spent xs xs
  loses_none xs = record { old = λ w there. there; kept = λ w there. inl there; fewer = omega arith }

  pub loses_order : (xs ys : List Waiting) → IsPermutation xs ys → LosesSpent Spent xs ys
  loses_order xs ys moves = record {
    old = λ w there. Contains-permutation ys xs w (IsPermutation-sym xs ys moves) there;
    kept = λ w there. inl (Contains-permutation xs ys w moves there);
    fewer = omega (arith, length_permutation xs ys moves);
  }

  pub loses_twice : (xs ys zs : List Waiting) → LosesSpent Spent xs ys → LosesSpent Spent ys zs → LosesSpent Spent xs zs
  loses_twice xs ys zs first second = record {
    old = λ w there. first.old w (second.old w there);
    kept = λ w there. elim (first.kept w there) [ inl still ↦ second.kept w still | inr spent ↦ inr spent ];
    fewer = omega (arith, first.fewer, second.fewer);
  }

  -- one that is spent leaves
  pub loses_one : (xs : List Waiting) (w : Waiting) (ys : List Waiting) → IsPermutation xs (w ∷ ys) → Spent w.spot → LosesSpent Spent xs ys
  loses_one xs w ys moves spent = record {
    old = λ v there. Contains-permutation (w ∷ ys) xs v (IsPermutation-sym xs (w ∷ ys) moves) (in_rest w ys v there);
    kept = λ v there. elim (cases_in w ys v (Contains-permutation xs (w ∷ ys) v moves there)) [
      | inl same ↦ inr (subst (λ u. Spent u.spot) (sym same) spent)
      | inr rest ↦ inl rest
    ];
    fewer = omega (arith, length_permutation xs (w ∷ ys) moves);
  }

  -- beside others
  pub loses_beside : (xs ys zs : List Waiting) → LosesSpent Spent xs ys → LosesSpent Spent (xs ++ zs) (ys ++ zs)
  loses_beside xs ys zs loses = record {
    old = λ w there. elim (Contains-append_cases ys zs w there) [
      | inl here ↦ Contains-append_left xs zs w (loses.old w here)
      | inr later ↦ Contains-append_right xs zs w later
    ];
    kept = λ w there. elim (Contains-append_cases xs zs w there) [
      | inl here ↦ elim (loses.kept w here) [ inl still ↦ inl (Contains-append_left ys zs w still) | inr spent ↦ inr spent ]
      | inr later ↦ inl (Contains-append_right ys zs w later)
    ];
    fewer = omega (arith, loses.fewer, length-append xs zs, length-append ys zs);
  }

  -- what holds of all holds of those that stay
  pub loses_keeps : (P : Waiting → Type 0) (xs ys : List Waiting) → LosesSpent Spent xs ys → All P xs → All P ys
  loses_keeps P xs ys loses all = all_from_in P ys (λ w there. each_in P xs all w (loses.old w there))

-- what holds of the images of all holds of all
pub all_of_images : {X : Type 0} (P : Waiting → Type 0) (f : X → Waiting) (xs : List X) → All P (map f xs) → All (λ x. P (f x)) xs
all_of_images P f xs all = all_from_in (λ x. P (f x)) xs (λ x there. each_in P (map f xs) all (f x) (in_map f xs x there))
