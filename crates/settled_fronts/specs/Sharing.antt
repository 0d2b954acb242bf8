-- Places of a list that are changed side by side.
use Rattle.std.specs.Prelude.{◌≡◌, ℕ, ◌+◌, ◌^◌, ◌<◌, List, length, get_or}

-- all is ready, and each place, of which the first has this number, holds what it may
pub record AreAccepted {P : Type 0} (Ready : Type 0) (Accepts : ℕ → P → Type 0) (first : ℕ) (places : List P) : Type 0 where
  pub ready : Ready
  pub room : first + length places < 2 ^ 64
  pub each : (i : ℕ) (p : P) → i < length places → Accepts (first + i) (get_or places i p)

-- as many places, and each was changed
pub record AreChanged {P : Type 0} (Changed : ℕ → P → P → Type 0) (first : ℕ) (before after : List P) : Type 0 where
  pub count : length after ≡ length before
  pub each : (i : ℕ) (p : P) → i < length before → Changed (first + i) (get_or before i p) (get_or after i p)
