-- What the lines of a file say. Some are ignored, one is the problem line, and each other is a record.
use Rattle.std.specs.Prelude.{ℕ, ◌==◌, Bool, true, if◌then◌else◌, List, [], ◌∷◌, Option, Some, None, nat_eq}
use Rattle.std.specs.Prelude.{◌≡◌, slice_index}
use Rattle.std.specs.Cmp.Lexicographic.{pointwise}
use Rattle.line_text.specs.Fields.{fields_of}
use Rattle.line_text.specs.Numerals.{is_digits, value_of}

-- what a line says, or that it has none of the forms
pub data LineForm (P R : Type 0) : Type 0 where
  Problem : P → LineForm P R
  Record : R → LineForm P R
  Malformed : LineForm P R

-- What tells one kind of files from another, where a problem line says a P, and each record is an R.
pub record Rules (P R : Type 0) : Type 0 where
  -- what a line of these fields says
  pub form_from : List (List ℕ) → LineForm P R
  -- the test that the numbers of the problem line are in range
  pub is_size : P → Bool
  -- how many records the problem line says
  pub count : P → ℕ
  -- the test that the ends of a record are nodes
  pub has_nodes : P → R → Bool
  -- the test that the weight of a record, if it has one, is in range
  pub has_weight : R → Bool

-- the test that a field is this word
abbrev pub is_word : List ℕ → List ℕ → Bool
is_word field word = pointwise nat_eq field word

-- the number that a field of digits writes, of any length
abbrev pub number_of : List ℕ → Option ℕ
number_of field = if is_digits field then Some (value_of field) else None

-- the test that a line of these fields is blank or a comment: its first byte that isn't a blank is a `c`
abbrev pub is_ignored : List (List ℕ) → Bool
is_ignored [] = true
is_ignored (word ∷ fields) = slice_index word 0 == 99

module _ {P R : Type 0} (rules : Rules P R) where
  -- what a line without a CR at its end says, where it isn't ignored
  abbrev pub form_in : List ℕ → LineForm P R
  form_in line = rules.form_from (fields_of line)

  -- what a line says, or None where it is ignored
  abbrev pub form_of : List ℕ → Option (LineForm P R)
  form_of line = if is_ignored (fields_of line) then None else Some (form_in line)

  -- the record's ends are nodes, and its weight is in range
  pub record IsWithinRange (problem : P) (r : R) : Type 0 where
    pub nodes : rules.has_nodes problem r ≡ true
    pub weight : rules.has_weight r ≡ true
