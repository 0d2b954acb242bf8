-- The lines of a text.
use Rattle.std.specs.Prelude.{ℕ, ◌+◌, ◌-◌, ◌==◌, Bool, if◌then◌else◌, List, [], ◌∷◌, length, filter, min, slice_index, take}
use Rattle.std.specs.List.{before_first, after_first, onto_first, position_or_len}

-- the test that a byte ends a line
abbrev pub is_lf : ℕ → Bool
is_lf byte = byte == 10

-- where the first LF stands, or the length where there is none
abbrev pub first_lf : List ℕ → ℕ
first_lf text = position_or_len is_lf text

-- what stands before the first LF, or the whole text where there is none
abbrev pub raw_line : List ℕ → List ℕ
raw_line text = before_first is_lf text

-- what stands behind the first LF, or nothing where there is none
abbrev pub after_line : List ℕ → List ℕ
after_line text = after_first is_lf text

-- how many bytes the first line takes, its LF counted where there is one
abbrev pub line_size : List ℕ → ℕ
line_size text = min (length (raw_line text) + 1) (length text)

-- a line without one CR at its end
abbrev pub without_cr : List ℕ → List ℕ
without_cr line =
    if slice_index line (length line - 1) == 13 then take (length line - 1) line else line

-- what stands before each LF, and behind the last one where that isn't empty
abbrev pub lines_of : List ℕ → List (List ℕ)
lines_of [] = []
lines_of (byte ∷ text) =
    if is_lf byte then [] ∷ lines_of text else onto_first byte (lines_of text)

-- how many lines end in a text, each by an LF
abbrev pub lines_ended : List ℕ → ℕ
lines_ended text = length (filter is_lf text)
