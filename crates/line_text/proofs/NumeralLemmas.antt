-- A text that is read digit by digit.
use Rattle.std.proofs.Common.{◌≡◌, ℕ, ◌+◌, ◌-◌, ◌*◌, ◌^◌, ◌<◌, ◌≤◌, true, false, cond, List, ◌∷◌, Option, Some, None, length, take, drop, get_or, refl, sym, ap, ◌∙◌, arith, ⊎_elim}
use Rattle.std.specs.Char.{is_ascii_digit, digit_value}
use Rattle.std.specs.List.{AllPass, prefix_len}
use Rattle.std.specs.Str.Parse.{digits_value}
use Rattle.std.proofs.Math.Nat.{pow-le-pow_right}
use Rattle.std.proofs.lemmas.Grind.{pow_more}
use Rattle.std.proofs.lemmas.Bool.{and_from, and_right, both_ways, cases_lt, false_from_ne_true, lt-ltb, not_from_false, not_from_true}
use Rattle.std.proofs.lemmas.Bool.Decides.{nat_tests}
use Rattle.std.proofs.lemmas.Int.Digits.{digits_value_more}
use Rattle.std.proofs.lemmas.List.{drop_all, drop_more, get_or-take, length-take, nil_from_length, take_all}
use Rattle.std.proofs.lemmas.List.Folds.{list_all_at}
use Rattle.std.proofs.lemmas.List.Sums.{list_all-from_AllPass, prefix_len-le-length, prefix_len_is, prefix_len_passes, prefix_len_stops}
use Rattle.line_text.specs.declared.numerals.Numeral.TheVariants.{NotDigits}
use Rattle.line_text.specs.Fields.{is_blank, is_filled, BeginsBlank, FirstField}
use Rattle.line_text.specs.Numerals.{FirstNumeral, at_most, numeral_of, numeral_or_above, value_of}
use Rattle.line_text.proofs.FieldLemmas.{all_before, first_field}

-- The first `i` bytes are digits, and this is their number.
pub record ReadsFront (text : List ℕ) (greatest i : ℕ) (value : Option ℕ) : Type 0 where
  pub digits : i ≤ prefix_len is_ascii_digit text
  pub number : value ≡ at_most greatest (value_of (take i text))

digit_value-is : (byte : ℕ) → is_ascii_digit byte ≡ true → digit_value byte ≡ byte - 48
digit_value-is byte digit = grind (arith, nat_tests)

-- the number with one digit more, where it was at most the greatest, and where it wasn't
more_at_most : (greatest value n m d : ℕ) → Some value ≡ at_most greatest n → m ≡ n * 10 + d → at_most greatest (value * 10 + d) ≡ at_most greatest m
more_at_most greatest value n m d front e = grind (arith, nat_tests)

more_above : (greatest n m d : ℕ) → None ≡ at_most greatest n → m ≡ n * 10 + d → None ≡ at_most greatest m
more_above greatest n m d front e = grind (arith, nat_tests)

module _ (text : List ℕ) (greatest i : ℕ) (within : i < length text) (digit : is_ascii_digit (get_or text i 0) ≡ true) where
  value_of-more : value_of (take (i + 1) text) ≡ value_of (take i text) * 10 + (get_or text i 0 - 48)
  value_of-more = digits_value_more 10 text i within ∙ ap (λ n. digits_value 10 (take i text) * 10 + n) (digit_value-is (get_or text i 0) digit)

  digits-more : i ≤ prefix_len is_ascii_digit text → i + 1 ≤ prefix_len is_ascii_digit text
  digits-more front =
      ⊎_elim (λ lt. omega arith)
      (λ le.
      let here : prefix_len is_ascii_digit text ≡ i = omega arith in
      absurd (both_ways _ (rw here at (prefix_len_stops is_ascii_digit text 0 (omega arith))) digit))
      (cases_lt i (prefix_len is_ascii_digit text))

  pub reads_more : (value : ℕ) (more : Option ℕ) → ReadsFront text greatest i (Some value)
      → more ≡ at_most greatest (value * 10 + (get_or text i 0 - 48)) → ReadsFront text greatest (i + 1) more
  reads_more value more front e =
      record { digits = digits-more front.digits; number = e ∙ more_at_most greatest value _ _ _ front.number value_of-more }

  pub stays_above : ReadsFront text greatest i None → ReadsFront text greatest (i + 1) None
  stays_above front = record { digits = digits-more front.digits; number = more_above greatest _ _ _ front.number value_of-more }

-- The first `i` bytes are digits, and this is their number, which isn't rounded.
pub record ReadsFew (text : List ℕ) (i value : ℕ) : Type 0 where
  pub digits : i ≤ prefix_len is_ascii_digit text
  pub number : value ≡ value_of (take i text)
  pub below : value < 10 ^ i

-- fewer than 18 digits leave room for one more
pub few_fit : (i value : ℕ) → value < 10 ^ i → i < 18 → value * 10 + 9 < 2 ^ 64
few_fit i value below few =
    let most : 10 ^ i ≤ 10 ^ 17 = pow-le-pow_right {n = 10} (omega arith) {i = i} {j = 17} (omega arith) in
    omega arith

-- one digit more is read
pub few_more : (text : List ℕ) (i value digit : ℕ) → i < length text → is_ascii_digit (get_or text i 0) ≡ true
    → digit ≡ get_or text i 0 - 48 → digit ≤ 9 → ReadsFew text i value → ReadsFew text (i + 1) (value * 10 + digit)
few_more text i value digit within is e small front = record {
  digits = digits-more text 0 i within is front.digits;
  number = rw e (ap (λ n. n * 10 + (get_or text i 0 - 48)) front.number ∙ sym (value_of-more text 0 i within is));
  below = let more : 10 ^ (i + 1) ≡ 10 ^ i * 10 = pow_more 10 i in omega (arith, front.below);
}

-- where the digits end
pub ends_digits : (text : List ℕ) (i : ℕ) → i ≤ prefix_len is_ascii_digit text → is_ascii_digit (get_or text i 0) ≡ false
    → i ≡ prefix_len is_ascii_digit text
ends_digits text i front other =
    ⊎_elim (λ lt. absurd (both_ways _ other (prefix_len_passes is_ascii_digit text i 0 lt))) (λ le. omega arith)
    (cases_lt i (prefix_len is_ascii_digit text))

-- ---- a field that is read as a number

numeral_of-digits : (field : List ℕ) (greatest : ℕ) → 0 < length field → AllPass is_ascii_digit field
    → numeral_or_above (at_most greatest (value_of field)) ≡ numeral_of field greatest
numeral_of-digits field greatest some all =
    sym (ap (λ b. cond b (numeral_or_above (at_most greatest (value_of field))) NotDigits)
    (and_from _ _ (lt-ltb 0 (length field) some) (list_all-from_AllPass is_ascii_digit field all)))

numeral_of-other : (field : List ℕ) (greatest i : ℕ) → i < length field → is_ascii_digit (get_or field i 0) ≡ false
    → NotDigits ≡ numeral_of field greatest
numeral_of-other field greatest i within other =
    sym (ap (λ b. cond b (numeral_or_above (at_most greatest (value_of field))) NotDigits)
    (and_right _ _ (list_all_at is_ascii_digit field i 0 within other)))

-- A text begins with so many digits.
module _ (text : List ℕ) (greatest size : ℕ) (counted : size ≡ prefix_len is_ascii_digit text) where
  -- behind them stands another byte
  pub not_digits : size < length text → NotDigits ≡ numeral_of text greatest
  not_digits more =
      numeral_of-other text greatest size more (rw counted (prefix_len_stops is_ascii_digit text 0 (omega arith)))

  -- there are none
  pub no_digit : size ≡ 0 → NotDigits ≡ numeral_of text greatest
  no_digit none =
      ⊎_elim (λ more. not_digits (omega arith)) (λ empty. rw (nil_from_length text (omega arith)) refl) (cases_lt 0 (length text))

  front_digits : AllPass is_ascii_digit (take size text)
  front_digits = rw counted (all_before is_ascii_digit text)

  -- the text ends behind them
  pub all_digits : (value : Option ℕ) → 0 < size → length text ≤ size → value ≡ at_most greatest (value_of (take size text))
      → numeral_or_above value ≡ numeral_of text greatest
  all_digits value some whole number =
      let same : take size text ≡ text = take_all size text whole in
      let within : size ≤ length text = omega (arith, prefix_len-le-length is_ascii_digit text) in
      ap numeral_or_above (number ∙ ap (λ bytes. at_most greatest (value_of bytes)) same)
      ∙ numeral_of-digits text greatest (omega arith) (rw same at front_digits)

digit_is_no_blank : (byte : ℕ) → is_ascii_digit byte ≡ true → is_blank byte ≡ false
digit_is_no_blank byte digit = grind (arith, nat_tests)

digit_is_filled : (byte : ℕ) → is_ascii_digit byte ≡ true → is_filled byte ≡ true
digit_is_filled byte digit = rw (digit_is_no_blank byte digit) refl

-- Of a text this stands behind its blanks, and begins with so many digits.
module _ (text filled : List ℕ) (e : filled ≡ drop (prefix_len is_blank text) text) (some : 0 < length filled)
    (greatest size : ℕ) (counted : size ≡ prefix_len is_ascii_digit filled) where
  digit_before : (k : ℕ) → k < size → is_filled (get_or filled k 0) ≡ true
  digit_before k below = digit_is_filled (get_or filled k 0) (prefix_len_passes is_ascii_digit filled k 0 (omega arith))

  whole_field : BeginsBlank (drop size filled) → size ≡ prefix_len is_filled filled
  whole_field ends =
      sym (prefix_len_is is_filled filled size 0 (omega (arith, prefix_len-le-length is_ascii_digit filled)) digit_before
      (λ past. not_from_true (is_blank (get_or filled size 0)) (rw (drop_more filled size 0 past) at ends)))

  -- the field ends behind them
  pub reads_number : (value : Option ℕ) (rest : List ℕ) → rest ≡ drop size filled → BeginsBlank rest
      → value ≡ at_most greatest (value_of (take size filled)) → FirstNumeral text greatest (numeral_or_above value) rest
  reads_number value rest back ends number =
      let first : FirstField text (take size filled) rest =
      first_field text filled e size (take size filled) rest some (whole_field (rw back at ends)) refl back in
      record {
        field = take size filled;
        first = first;
        reads = ap numeral_or_above number ∙ numeral_of-digits (take size filled) greatest first.filled (front_digits filled greatest size counted);
      }

  module _ (goes_on : BeginsBlank (drop size filled) → ⊥) where
    within : size < length filled
    within = ⊎_elim (λ lt. lt) (λ le. absurd (goes_on (rw (drop_all size filled le) tt))) (cases_lt size (length filled))

    filled_here : is_filled (get_or filled size 0) ≡ true
    filled_here =
        not_from_false _ (false_from_ne_true (is_blank (get_or filled size 0)) (λ blank. goes_on (rw (drop_more filled size 0 within) blank)))

    longer : size < prefix_len is_filled filled
    longer =
        ⊎_elim (λ lt. lt)
        (λ le.
        let stops = prefix_len_stops is_filled filled 0 (omega (arith, within)) in
        ⊎_elim (λ lt. absurd (both_ways _ stops (digit_before _ lt)))
        (λ ge.
        let here : prefix_len is_filled filled ≡ size = omega arith in
        absurd (both_ways _ (rw here at stops) filled_here))
        (cases_lt (prefix_len is_filled filled) size))
        (cases_lt size (prefix_len is_filled filled))

    -- the field goes on behind them
    pub reads_no_number : (n : ℕ) (rest : List ℕ) → n ≡ prefix_len is_filled filled → rest ≡ drop n filled
        → FirstNumeral text greatest NotDigits rest
    reads_no_number n rest sized back =
        let long : size < n = omega (arith, longer) in
        let other : is_ascii_digit (get_or (take n filled) size 0) ≡ false =
        ap is_ascii_digit (get_or-take n filled size 0 long) ∙ rw counted (prefix_len_stops is_ascii_digit filled 0 (omega (arith, within))) in
        record {
          field = take n filled;
          first = first_field text filled e n (take n filled) rest some sized refl back;
          reads = numeral_of-other (take n filled) greatest size (omega (arith, length-take n filled, within)) other;
        }

-- ---- a number behind one blank

-- what a byte and these digits begin has the digits' field behind one blank, where the byte is one
module _ (byte : ℕ) (filled : List ℕ) (blank : is_blank byte ≡ true) (size : ℕ) (some : 0 < size) (counted : size ≡ prefix_len is_ascii_digit filled) where
  begun : 0 < length filled
  begun = omega (arith, prefix_len-le-length is_ascii_digit filled)

  digit_here : is_ascii_digit (get_or filled 0 0) ≡ true
  digit_here = prefix_len_passes is_ascii_digit filled 0 0 (omega arith)

  one_blank : prefix_len is_blank (byte ∷ filled) ≡ 1
  one_blank =
      prefix_len_is is_blank (byte ∷ filled) 1 0 (omega arith)
      (λ k below. let first : k ≡ 0 = omega arith in rw first blank)
      (λ past. digit_is_no_blank (get_or filled 0 0) digit_here)

  pub reads_short : (greatest value : ℕ) (rest : List ℕ) → rest ≡ drop size filled → BeginsBlank rest
      → value ≡ value_of (take size filled) → FirstNumeral (byte ∷ filled) greatest (numeral_or_above (at_most greatest value)) rest
  reads_short greatest value rest back ends number =
      reads_number (byte ∷ filled) filled (rw one_blank refl) begun greatest size counted (at_most greatest value) rest back ends
      (ap (at_most greatest) number)
