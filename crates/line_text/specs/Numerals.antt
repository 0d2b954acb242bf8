-- The numbers that digits write.
use Rattle.std.specs.Prelude.{◌≡◌, ℕ, nat_le, nat_lt, if◌then◌else◌, ◌&&◌, Bool, List, [], ◌∷◌, length, Option, Some, None}
use Rattle.std.specs.Char.{is_ascii_digit}
use Rattle.std.specs.List.{list_all}
use Rattle.std.specs.Str.Parse.{digits_value}
use Rattle.line_text.specs.Fields.{FirstField}
use Rattle.line_text.specs.declared.numerals.Numeral.{Numeral}
use Rattle.line_text.specs.declared.numerals.Numeral.TheVariants.{NotDigits, Above, Value}

-- the test that a text is one or more ASCII digits
abbrev pub is_digits : List ℕ → Bool
is_digits text = nat_lt 0 (length text) && list_all is_ascii_digit text

-- the number that the digits write in base ten
abbrev pub value_of : List ℕ → ℕ
value_of text = digits_value 10 text

-- the number, if it is at most `greatest`
abbrev pub at_most : ℕ → ℕ → Option ℕ
at_most greatest value = if nat_lt greatest value then None else Some value

-- a number, or none that is at most the greatest
abbrev pub numeral_or_above : Option ℕ → Numeral
numeral_or_above None = Above
numeral_or_above (Some value) = Value value

-- how a text reads as a number of at most `greatest`
abbrev pub numeral_of : List ℕ → ℕ → Numeral
numeral_of text greatest =
    if is_digits text then numeral_or_above (at_most greatest (value_of text)) else NotDigits

-- The first field of the text reads as this number of at most `greatest`, and then comes the rest.
pub record FirstNumeral (text : List ℕ) (greatest : ℕ) (numeral : Numeral) (rest : List ℕ) : Type 0 where
  pub field : List ℕ
  pub first : FirstField text field rest
  pub reads : numeral ≡ numeral_of field greatest

-- the number that a field writes in digits, where it is from `least` to `greatest`
abbrev pub number_in : ℕ → ℕ → List ℕ → Option ℕ
number_in least greatest field =
    if is_digits field && (nat_le least (value_of field) && nat_le (value_of field) greatest)
    then Some (value_of field)
    else None

-- the number that the first of these fields writes, where it is in range
abbrev pub front_in : ℕ → ℕ → List (List ℕ) → Option ℕ
front_in least greatest [] = None
front_in least greatest (field ∷ fields) = number_in least greatest field

-- The first of these fields writes this number, which is in range, and the others stand behind it.
pub record FirstIn (least greatest : ℕ) (fields : List (List ℕ)) (number : ℕ) (others : List (List ℕ)) : Type 0 where
  pub field : List ℕ
  pub parts : fields ≡ field ∷ others
  pub writes : number_in least greatest field ≡ Some number
