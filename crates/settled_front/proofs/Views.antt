-- Lists of what is stored, and the lists that they are seen as.
use Rattle.std.proofs.Common.{◌≡◌, ℕ, ◌-◌, ◌<◌, List, ◌∷◌, ◌++◌, length, get_or, map, take, drop, [], length-drop, Some, option_map, sym, ap, ◌∙◌}
use Rattle.std.proofs.Common.{arith, insert, slice_get, take_all}
use Rattle.std.proofs.lemmas.Option.{get_or_from_slice_get, slice_get-map}
use Rattle.std.proofs.lemmas.List.{drop-map, get_or-map, map-append, take-map}

module _ {X Y : Type 0} (f : X → List Y) (xs : List X) where
  -- what was read at a place
  pub read_at : (k : ℕ) (x : X) → k < length xs → x ≡ get_or xs k x → get_or (map f xs) k [] ≡ f x
  read_at k x within is = get_or-map f xs k x [] within ∙ ap f (sym is)

  -- what was got at a place
  pub got_at : (k : ℕ) (x : X) → slice_get xs k ≡ Some x → get_or (map f xs) k [] ≡ f x
  got_at k x is = get_or_from_slice_get (map f xs) k (f x) [] (slice_get-map f xs k ∙ ap (option_map f) is)

  -- what stands from a place on
  pub map-from : (n : ℕ) → map f (take (length xs - n) (drop n xs)) ≡ drop n (map f xs)
  map-from n = ap (map f) (take_all (length xs - n) (drop n xs) (omega (arith, length-drop n xs))) ∙ sym (drop-map f n xs)

  -- what was put in at a place
  pub map-insert : (i : ℕ) (x : X) → map f (insert xs i x) ≡ insert (map f xs) i (f x)
  map-insert i x = map-append f (take i xs) (x ∷ drop i xs) ∙ (λ t. sym (take-map f i xs) t ++ f x ∷ sym (drop-map f i xs) t)
