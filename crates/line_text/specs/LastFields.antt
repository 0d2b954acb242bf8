-- What is known of the last field of a line while its bytes come.
use Rattle.std.specs.Prelude.{◌≡◌, ◌<◌, ℕ, ◌==◌, ◌&&◌, if◌then◌else◌, Bool, true, false, List, [], ◌∷◌, ◌++◌, take, codes}
use Rattle.std.specs.List.{AllPass}
use Rattle.line_text.specs.Fields.{is_filled, fields_of}
use Rattle.line_text.specs.Http.{last_names_http}
use Rattle.line_text.specs.Lines.{without_cr}
use Rattle.line_text.specs.declared.http.LastField.{LastField}
use Rattle.line_text.specs.declared.http.LastField.TheVariants.{Ended, Begun, Named, Cr, Other}

-- the test that one of two texts begins with the other
abbrev pub begin_alike : List ℕ → List ℕ → Bool
begin_alike [] text = true
begin_alike (byte ∷ name) [] = true
begin_alike (byte ∷ name) (other ∷ text) = other == byte && begin_alike name text

-- what is known of a field that goes on, where the one before it, if there is one, begins with `HTTP/` or not
abbrev pub Stands : LastField → Bool → List ℕ → Type 0
Stands (Ended ended) named field = (field ≡ []) × (ended ≡ named)
Stands (Begun bytes) named field = (0 < bytes) × (bytes < 5) × (field ≡ take bytes (codes "HTTP/"))
Stands Named named field = (more : List ℕ) × (field ≡ codes "HTTP/" ++ more)
Stands Cr named field = (field ≡ 13 ∷ []) × (named ≡ true)
Stands Other named field = (begin_alike (codes "HTTP/") field ≡ false) × (field ≡ 13 ∷ [] → named ≡ false)

-- The text ends with a field that goes on, or with none, and this is known of it. No field of what stands before it runs on.
pub record Shows (last : LastField) (text : List ℕ) : Type 0 where
  pub front : List ℕ
  pub field : List ℕ
  pub parts : text ≡ front ++ field
  pub ends : (more : List ℕ) → fields_of (front ++ more) ≡ fields_of front ++ fields_of more
  pub no_cr : without_cr front ≡ front
  pub filled : AllPass is_filled field
  pub stands : Stands last (last_names_http (fields_of front)) field

-- a field that begins with a byte, behind one that begins with `HTTP/` or not
abbrev pub begins : Bool → ℕ → LastField
begins named byte = if byte == 72 then Begun 1 else if named && byte == 13 then Cr else Other

-- a field with one byte more behind so many of `HTTP/`
abbrev pub goes_on_in_name : ℕ → ℕ → LastField
goes_on_in_name bytes byte =
    if bytes == 1 && byte == 84 then Begun 2 else if bytes == 2 && byte == 84 then Begun 3 else
    if bytes == 3 && byte == 80 then Begun 4 else if bytes == 4 && byte == 47 then Named else Other

-- the last field with one byte more that is no blank
abbrev pub goes_on : LastField → ℕ → LastField
goes_on (Ended named) byte = begins named byte
goes_on (Begun bytes) byte = goes_on_in_name bytes byte
goes_on Named byte = Named
goes_on Cr byte = Other
goes_on Other byte = Other

-- the test that it begins with `HTTP/`, where a blank comes
abbrev pub is_named : LastField → Bool
is_named (Ended named) = named
is_named (Begun bytes) = false
is_named Named = true
is_named Cr = false
is_named Other = false

-- the same where the line ends, of which one CR doesn't count
abbrev pub ends_named : LastField → Bool
ends_named Cr = true
ends_named last = is_named last
