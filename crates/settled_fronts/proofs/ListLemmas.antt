-- The front of a list.
use Rattle.std.proofs.Common.{◌≡◌, ◌⊎◌, ◌↔◌, ℕ, ◌+◌, ◌<◌, List, [], ◌∷◌, ◌++◌, length, get_or, take, inl, inr, refl, add-one}
use Rattle.std.specs.Prelude.{Contains}
use Rattle.std.proofs.Math.Seq.{take-suc}
use Rattle.std.proofs.lemmas.List.Elements.{All-contains_itself, All-take}
use Rattle.list_laws.proofs.Members.{cases_push, each_in, in_front}
use Rattle.list_laws.proofs.OnceLaws.{in_append}

module _ {X : Type 0} where
  -- what it contains the list does
  pub of_take : (n : ℕ) (xs : List X) (x : X) → Contains (take n xs) x → Contains xs x
  of_take n xs x there = each_in (Contains xs) (take n xs) (All-take (Contains xs) n xs (All-contains_itself xs)) x there

  -- one more element stands at the end
  pub in_pushed : (xs : List X) (y x : X) → Contains (xs ++ y ∷ []) x ↔ (Contains xs x ⊎ (x ≡ y))
  in_pushed xs y x = (
    cases_push xs y x,
    elim [ inl old ↦ (in_append xs (y ∷ []) x).1 (inl old) | inr same ↦ (in_append xs (y ∷ []) x).1 (inr (in_front y [] x same)) ],
  )

  -- one element longer
  pub one_more : (xs : List X) (i : ℕ) (x : X) → i < length xs → x ≡ get_or xs i x → take (i + 1) xs ≡ take i xs ++ x ∷ []
  one_more xs i x below is = rw (add-one, take-suc xs i x below, ← is) refl

  pub take_more : (xs : List X) (i : ℕ) (x : X) → i < length xs → x ≡ get_or xs i x → (y : X)
      → Contains (take (i + 1) xs) y ↔ (Contains (take i xs) y ⊎ (y ≡ x))
  take_more xs i x below is y = rw (one_more xs i x below is) (in_pushed (take i xs) x y)
