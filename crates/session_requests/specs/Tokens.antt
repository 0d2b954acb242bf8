-- What the fields of a request write.
use Rattle.std.specs.Prelude.{◌≡◌, ℕ, ◌^◌, ◌-◌, List, Option, Some, None, codes}
use Rattle.line_text.specs.Numerals.{numeral_of}
use Rattle.line_text.specs.declared.numerals.Numeral.TheVariants.{Value}

-- a word, a number, or a place of a limit
pub data Token : Type 0 where
  Word : List ℕ → Token
  Number : ℕ → Token
  Bound : Option ℕ → Token

-- the greatest number of a request
abbrev pub max_number : ℕ
max_number = 2 ^ 32 - 1

-- the greatest bound of a limit
abbrev pub max_bound : ℕ
max_bound = 2 ^ 64 - 1

-- the field writes this; no bound is written by a single `-`
abbrev pub Writes : List ℕ → Token → Type 0
Writes field (Word word) = field ≡ word
Writes field (Number n) = numeral_of field max_number ≡ Value n
Writes field (Bound None) = field ≡ codes "-"
Writes field (Bound (Some most)) = numeral_of field max_bound ≡ Value most
