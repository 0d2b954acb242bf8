-- Numbers of more than 32 bits are read as one: they are out of every range, whichever they are.
use Rattle.std.specs.Prelude.{◌≡◌, ℕ, ◌^◌, min, List, [], ◌∷◌, Option, Some, None}
use Rattle.std.specs.Option.{option_map}
use Rattle.gr_reader.specs.Rules.{LineForm, number_of}
use Rattle.gr_reader.specs.Rules.LineForm.{Problem, Record, Malformed}

-- the number, or the least of more than 32 bits in place of a greater one
abbrev pub capped_number : ℕ → ℕ
capped_number n = min n (2 ^ 32)

-- the number that the first of these fields writes
abbrev pub front_number : List (List ℕ) → Option ℕ
front_number [] = None
front_number (field ∷ fields) = number_of field

-- the number that a field writes where there is no other
abbrev pub only_number : List (List ℕ) → Option ℕ
only_number (field ∷ []) = number_of field
only_number fields = None

-- The first of these fields writes this number, and the others stand behind it.
pub record FirstCapped (fields : List (List ℕ)) (number : ℕ) (others : List (List ℕ)) : Type 0 where
  pub field : List ℕ
  pub parts : fields ≡ field ∷ others
  pub writes : Some number ≡ option_map capped_number (number_of field)

-- the form with its numbers changed by these
abbrev pub map_form : {P R : Type 0} → (P → P) → (R → R) → LineForm P R → LineForm P R
map_form of_problem of_record (Problem problem) = Problem (of_problem problem)
map_form of_problem of_record (Record r) = Record (of_record r)
map_form of_problem of_record Malformed = Malformed
