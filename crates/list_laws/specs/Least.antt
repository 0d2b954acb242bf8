-- The least number of a kind.
use Rattle.std.specs.Prelude.{ℕ, ◌<◌, Option, Some, None}

-- n is the least number that P holds of
pub record IsLeastWith (P : ℕ → Type 0) (n : ℕ) : Type 0 where
  pub holds : P n
  pub none_below : (m : ℕ) → m < n → ¬ P m

-- the least number that P holds of, if there is one
abbrev pub IsLeastIfAny : (ℕ → Type 0) → Option ℕ → Type 0
IsLeastIfAny P None = (n : ℕ) → ¬ P n
IsLeastIfAny P (Some n) = IsLeastWith P n
