-- Places of a list that are filled side by side.
use Rattle.std.specs.Prelude.{◌≡◌, ℕ, ◌+◌, List, Some, length, slice_get}

-- as many places, and each holds what it may, where the first has this number
pub record AreFilled {P : Type 0} (Gives : ℕ → P → Type 0) (first : ℕ) (before after : List P) : Type 0 where
  pub count : length after ≡ length before
  pub each : (i : ℕ) (p : P) → slice_get after i ≡ Some p → Gives (first + i) p
