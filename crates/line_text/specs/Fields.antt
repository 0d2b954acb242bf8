-- The fields of a text.
use Rattle.std.specs.Prelude.{◌≡◌, ◌<◌, ◌≤◌, ℕ, ◌==◌, ◌||◌, nat_lt, not, ⊤, true, Bool, List, [], ◌∷◌, ◌++◌, length}
use Rattle.std.specs.Prelude.{take, drop, filter, slice_index, slice_range}
use Rattle.std.specs.List.{slice_split, AllPass}

-- the test that a byte is a space or a tab
abbrev pub is_blank : ℕ → Bool
is_blank byte = byte == 32 || byte == 9

-- the test that a byte is none
abbrev pub is_filled : ℕ → Bool
is_filled byte = not (is_blank byte)

-- the test that there is a byte
abbrev pub has_byte : List ℕ → Bool
has_byte bytes = nat_lt 0 (length bytes)

-- the longest runs of bytes other than space and tab
abbrev pub fields_of : List ℕ → List (List ℕ)
fields_of text = filter has_byte (slice_split is_blank text)

-- a text is empty, or its first byte is a blank
abbrev pub BeginsBlank : List ℕ → Type 0
BeginsBlank [] = ⊤
BeginsBlank (byte ∷ text) = is_blank byte ≡ true

-- Behind blanks the text has this first field, and then the rest.
pub record FirstField (text field rest : List ℕ) : Type 0 where
  pub blanks : List ℕ
  pub parts : text ≡ blanks ++ (field ++ rest)
  pub only_blanks : AllPass is_blank blanks
  pub filled : 0 < length field
  pub ends : BeginsBlank rest
  pub fields : fields_of text ≡ field ∷ fields_of rest

-- The first field of the text begins with this byte.
pub record FirstByte (text : List ℕ) (byte : ℕ) : Type 0 where
  pub field : List ℕ
  pub others : List (List ℕ)
  pub fields : fields_of text ≡ field ∷ others
  pub begins : slice_index field 0 ≡ byte

-- The field number `i`, from 0, stands from `start` up to `end`.
pub record FieldAt (text : List ℕ) (i start end : ℕ) : Type 0 where
  pub filled : start < end
  pub within : end ≤ length text
  pub before : length (fields_of (take start text)) ≡ i
  pub fields : fields_of text
      ≡ fields_of (take start text) ++ slice_range text start end ∷ fields_of (drop end text)
