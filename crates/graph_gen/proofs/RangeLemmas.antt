-- Lists that are joined over a range of numbers.
use Rattle.std.proofs.Common.{◌≡◌, ℕ, ◌+◌, List, [], ◌∷◌, ◌++◌, map, sym, ap, ap₂, ◌∙◌, append-nil}
use Rattle.std.specs.List.{flat_map, range_with_len}
use Rattle.std.proofs.lemmas.Grind.{flat_map-append}
use Rattle.std.proofs.lemmas.List.Folds.{flat_map-map}
use Rattle.std.proofs.lemmas.List.FromFn.{map-range_with_len_more}

-- one number more
pub flat_map-range_more : {A : Type 0} (f : ℕ → List A) (a n j : ℕ) → a + n ≡ j
    → flat_map f (range_with_len a (n + 1)) ≡ flat_map f (range_with_len a n) ++ f j
flat_map-range_more f a n j is_j =
    let same : ℕ → ℕ = λ k. k in
    sym (flat_map-map f same (range_with_len a (n + 1))) ∙ ap (flat_map f) (map-range_with_len_more same a n j is_j)
    ∙ flat_map-append f (map same (range_with_len a n)) (j ∷ []) ∙ ap₂ ◌++◌ (flat_map-map f same (range_with_len a n)) (append-nil (f j))
