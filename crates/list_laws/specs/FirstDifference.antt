-- The order of two lists by the first place at which they differ.
use Rattle.std.specs.Prelude.{◌≡◌, ℕ, ◌<◌, ◌⊎◌, List, [], ◌∷◌}

-- at the first place at which the lists differ both have a number, and the first list has the lesser one
abbrev pub IsLessAtFirst : List ℕ → List ℕ → Type 0
IsLessAtFirst [] ys = ⊥
IsLessAtFirst (x ∷ xs) [] = ⊥
IsLessAtFirst (x ∷ xs) (y ∷ ys) = (x < y) ⊎ ((x ≡ y) × IsLessAtFirst xs ys)
