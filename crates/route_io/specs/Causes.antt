-- How counts of faults say that a failure was the outside's.
use Rattle.std.specs.Prelude.{◌≡◌, ℕ, ◌+◌, ◌-◌, ◌^◌, ◌≤◌, min, Bool, true, false}

-- the greatest value of a counter of 64 bits, which it doesn't leave
abbrev pub max_count : ℕ
max_count = 2 ^ 64 - 1

-- one more, in such a counter
abbrev pub count_up : ℕ → ℕ
count_up n = min (n + 1) max_count

-- A count went up, or it stands at its greatest value. It never fell.
abbrev pub Rose : ℕ → ℕ → Type 0
Rose before now = (before ≤ now) × (count_up before ≤ now)

-- A fault was counted, or there was none and the count stands.
abbrev pub IsCounted : Bool → ℕ → ℕ → Type 0
IsCounted true before now = Rose before now
IsCounted false before now = now ≡ before
