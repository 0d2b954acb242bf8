-- Which lines are those of HTTP.
use Rattle.std.specs.Prelude.{ℕ, ◌==◌, Bool, false, List, [], ◌∷◌, codes}
use Rattle.std.specs.List.{starts_with}
use Rattle.line_text.specs.Fields.{fields_of}
use Rattle.line_text.specs.Lines.{without_cr}

-- the test that a field begins with `HTTP/`
abbrev pub names_http : List ℕ → Bool
names_http field = starts_with ◌==◌ field (codes "HTTP/")

-- the test that there is a last field, and it begins so
abbrev pub last_names_http : List (List ℕ) → Bool
last_names_http [] = false
last_names_http (field ∷ []) = names_http field
last_names_http (field ∷ next ∷ fields) = last_names_http (next ∷ fields)

-- the test that a line is one of HTTP: its last field begins with `HTTP/`, and one CR at the line's end doesn't count
abbrev pub is_http : List ℕ → Bool
is_http line = last_names_http (fields_of (without_cr line))
