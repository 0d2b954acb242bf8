-- The order of lists by the first place at which they differ.
use Rattle.std.proofs.Common.{ℕ, List, [], ◌∷◌, ◌++◌, inl, inr, arith}
use Rattle.list_laws.specs.FirstDifference.{IsLessAtFirst}

-- of two lists not both are before the other
pub less_not_both : (xs ys : List ℕ) → IsLessAtFirst xs ys → ¬ IsLessAtFirst ys xs
less_not_both [] ys h k = absurd h
less_not_both (x ∷ xs) [] h k = absurd h
less_not_both (x ∷ xs) (y ∷ ys) (inl below) (inl above) = omega arith
less_not_both (x ∷ xs) (y ∷ ys) (inl below) (inr same) = omega (arith, same.0)
less_not_both (x ∷ xs) (y ∷ ys) (inr same) (inl above) = omega (arith, same.0)
less_not_both (x ∷ xs) (y ∷ ys) (inr same) (inr again) = less_not_both xs ys same.1 again.1

-- two lists that begin alike differ first behind that
pub less_behind : (zs xs ys : List ℕ) → IsLessAtFirst (zs ++ xs) (zs ++ ys) → IsLessAtFirst xs ys
less_behind [] xs ys h = h
less_behind (z ∷ zs) xs ys (inl below) = absurd (omega arith)
less_behind (z ∷ zs) xs ys (inr same) = less_behind zs xs ys same.1
