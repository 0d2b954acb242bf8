-- Lines of fields that are written, as a reader finds them.
use Rattle.std.proofs.Common.{◌≡◌, ℕ, ◌+◌, ◌-◌, ◌*◌, ◌<◌, ◌≤◌, ◌^◌, true, false, cond, ◌&&◌, List, [], ◌∷◌, ◌++◌, length, take, get_or, decimal, refl, ap, ◌∙◌, arith, filter, append-nil, length-append}
use Rattle.std.specs.Prelude.{◌==◌, if◌then◌else◌}
use Rattle.std.specs.Char.{digit_value, is_ascii_digit}
use Rattle.std.specs.List.{All, flat_map, list_all, onto_first, slice_split}
use Rattle.std.specs.Str.Parse.{AllDigits}
use Rattle.std.proofs.lemmas.Bool.{lt-ltb}
use Rattle.std.proofs.lemmas.Bool.Decides.{nat_tests}
use Rattle.std.proofs.lemmas.Fmt.{decimal_is_IsNumeral, length-decimal-le}
use Rattle.std.proofs.lemmas.List.Elements.{All-nil, All-cons, All-head, All-tail, All-append, All-weaker, All-get_or}
use Rattle.std.proofs.lemmas.List.Splits.{slice_split_at, slice_split_none}
use Rattle.line_text.specs.Fields.{is_blank, has_byte, fields_of}
use Rattle.line_text.specs.Lines.{is_lf, lines_of, without_cr}
use Rattle.line_text.specs.Numerals.{is_digits, value_of}

-- A field: bytes above the blank, and one of them at least.
pub record IsField (field : List ℕ) : Type 0 where
  pub some : 0 < length field
  pub above : All (λ byte. 32 < byte) field

-- a blank, and then a field
abbrev pub behind_blank : List ℕ → List ℕ
behind_blank field = 32 ∷ field

-- a line of these fields
abbrev pub line_of_fields : List ℕ → List (List ℕ) → List ℕ
line_of_fields first others = first ++ flat_map behind_blank others

-- ---- fields

not_blank : (byte : ℕ) → 32 < byte → is_blank byte ≡ false
not_blank byte above = grind (arith, nat_tests)

no_blank : (field : List ℕ) → IsField field → All (λ byte. is_blank byte ≡ false) field
no_blank field is = All-weaker (λ byte. 32 < byte) (λ byte. is_blank byte ≡ false) not_blank field is.above

split_line : (first : List ℕ) (others : List (List ℕ)) → IsField first → All IsField others
    → slice_split is_blank (line_of_fields first others) ≡ first ∷ others
split_line first [] is all = ap (slice_split is_blank) (append-nil first) ∙ slice_split_none is_blank first (no_blank first is)
split_line first (next ∷ others) is all =
    slice_split_at is_blank first 32 (line_of_fields next others) (no_blank first is) refl
    ∙ ap (λ parts. first ∷ parts) (split_line next others (All-head IsField next others all) (All-tail IsField next others all))

keep_all : (fields : List (List ℕ)) → All IsField fields → filter has_byte fields ≡ fields
keep_all [] all = refl
keep_all (field ∷ fields) all =
    ap (λ b. cond b (field ∷ filter has_byte fields) (filter has_byte fields)) (lt-ltb 0 (length field) (All-head IsField field fields all).some)
    ∙ ap (λ l. field ∷ l) (keep_all fields (All-tail IsField field fields all))

-- a line has the fields that it is made of
pub fields_of-line : (first : List ℕ) (others : List (List ℕ)) → IsField first → All IsField others
    → fields_of (line_of_fields first others) ≡ first ∷ others
fields_of-line first others is all =
    ap (filter has_byte) (split_line first others is all) ∙ keep_all (first ∷ others) (All-cons IsField first others is all)

-- ---- numbers

digit_of_value : (byte : ℕ) → digit_value byte < 10 → is_ascii_digit byte ≡ true
digit_of_value byte below = grind (arith, nat_tests)

above_of_value : (byte : ℕ) → digit_value byte < 10 → 32 < byte
above_of_value byte below = grind (arith, nat_tests)

all_digits : (bytes : List ℕ) → AllDigits 10 bytes → list_all is_ascii_digit bytes ≡ true
all_digits [] all = refl
all_digits (byte ∷ bytes) all = ap (λ b. b && list_all is_ascii_digit bytes) (digit_of_value byte all.0) ∙ all_digits bytes all.1

all_above : (bytes : List ℕ) → AllDigits 10 bytes → All (λ byte. 32 < byte) bytes
all_above [] all = All-nil (λ byte. 32 < byte)
all_above (byte ∷ bytes) all = All-cons (λ b. 32 < b) byte bytes (above_of_value byte all.0) (all_above bytes all.1)

module _ (n : ℕ) (fits : n < 2 ^ 64) where
  -- a number in decimal is a field
  pub decimal_field : IsField (decimal n)
  decimal_field =
      let is = (decimal_is_IsNumeral n fits).0 in record { some = is.0; above = all_above (decimal n) is.1 }

  -- of digits alone
  pub is_digits-decimal : is_digits (decimal n) ≡ true
  is_digits-decimal =
      let is = (decimal_is_IsNumeral n fits).0 in
      ap (λ b. b && list_all is_ascii_digit (decimal n)) (lt-ltb 0 (length (decimal n)) is.0) ∙ all_digits (decimal n) is.1

  -- and it is read as that number
  pub value_of-decimal : value_of (decimal n) ≡ n
  value_of-decimal = (decimal_is_IsNumeral n fits).1

-- ---- short fields

-- a byte above the blank is a field, and so is a longer one with it in front
pub one_byte : (a : ℕ) → 32 < a → IsField (a ∷ [])
one_byte a above = record { some = omega arith; above = All-cons (λ b. 32 < b) a [] above (All-nil (λ b. 32 < b)) }

pub byte_more : (a : ℕ) (field : List ℕ) → 32 < a → IsField field → IsField (a ∷ field)
byte_more a field above is = record { some = omega arith; above = All-cons (λ b. 32 < b) a field above is.above }

-- A field of 16 bytes at most.
pub record IsShortField (field : List ℕ) : Type 0 where
  pub is : IsField field
  pub short : length field ≤ 16

-- a number of so many digits at most is one
pub short_decimal : (n : ℕ) → n < 10 ^ 16 → IsShortField (decimal n)
short_decimal n below =
    let fits : n < 2 ^ 64 = omega arith in record { is = decimal_field n fits; short = length-decimal-le 16 n (omega arith) below fits }

-- a line of such fields is short
pub length-line : (first : List ℕ) (others : List (List ℕ)) → All IsShortField others → length (line_of_fields first others) ≤ length first + 17 * length others
length-line first [] all = omega (arith, length-append first [])
length-line first (next ∷ others) all =
    let rest = length-line next others (All-tail IsShortField next others all) in
    let one = (All-head IsShortField next others all).short in
    omega (arith, length-append first (32 ∷ line_of_fields next others))

pub fields_are : (fields : List (List ℕ)) → All IsShortField fields → All IsField fields
fields_are fields all = All-weaker IsShortField IsField (λ field short. short.is) fields all

pub none_short : All IsShortField []
none_short = All-nil IsShortField

pub numbers_more : (n : ℕ) (fields : List (List ℕ)) → n < 10 ^ 16 → All IsShortField fields → All IsShortField (decimal n ∷ fields)
numbers_more n fields below all = All-cons IsShortField (decimal n) fields (short_decimal n below) all

-- ---- lines

-- no byte of the text is below the blank, as LF and CR are
abbrev pub IsLineText : List ℕ → Type 0
IsLineText text = All (λ byte. 32 ≤ byte) text

field_text : (field : List ℕ) → IsField field → IsLineText field
field_text field is = All-weaker (λ byte. 32 < byte) (λ byte. 32 ≤ byte) (λ byte above. omega arith) field is.above

-- a line of fields is such a text
pub line_text : (first : List ℕ) (others : List (List ℕ)) → IsField first → All IsField others → IsLineText (line_of_fields first others)
line_text first [] is all = All-append (λ byte. 32 ≤ byte) first [] (field_text first is) (All-nil (λ byte. 32 ≤ byte))
line_text first (next ∷ others) is all =
    All-append (λ byte. 32 ≤ byte) first (32 ∷ line_of_fields next others) (field_text first is)
    (All-cons (λ byte. 32 ≤ byte) 32 (line_of_fields next others) (omega arith)
    (line_text next others (All-head IsField next others all) (All-tail IsField next others all)))

not_lf : (byte : ℕ) → 32 ≤ byte → is_lf byte ≡ false
not_lf byte above = grind (arith, nat_tests)

not_cr : (byte : ℕ) → 32 ≤ byte → (byte == 13) ≡ false
not_cr byte above = grind (arith, nat_tests)

-- the first line of a text ends at the first LF
pub lines_of-line : (line rest : List ℕ) → IsLineText line → lines_of (line ++ 10 ∷ rest) ≡ line ∷ lines_of rest
lines_of-line [] rest all = refl
lines_of-line (byte ∷ line) rest all =
    ap (λ b. if b then [] ∷ lines_of (line ++ 10 ∷ rest) else onto_first byte (lines_of (line ++ 10 ∷ rest)))
    (not_lf byte (All-head (λ b. 32 ≤ b) byte line all))
    ∙ ap (onto_first byte) (lines_of-line line rest (All-tail (λ b. 32 ≤ b) byte line all))

-- it has no CR at its end
pub without_cr-same : (line : List ℕ) → IsLineText line → without_cr line ≡ line
without_cr-same [] all = refl
without_cr-same (byte ∷ line) all =
    let text = byte ∷ line in
    let last = length text - 1 in
    ap (λ b. if b then take last text else text)
    (not_cr (get_or text last 0) (All-get_or (λ b. 32 ≤ b) text last 0 (omega arith) all))
