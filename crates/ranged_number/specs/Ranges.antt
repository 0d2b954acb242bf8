-- Numbers of a range.
use Rattle.std.specs.Prelude.{ℕ, Option, Some, None, nat_le, ◌&&◌, if◌then◌else◌}

-- the number, if it is from the least to the greatest
abbrev pub in_range : ℕ → ℕ → ℕ → Option ℕ
in_range least greatest number = if nat_le least number && nat_le number greatest then Some number else None
