-- The first file of a name.
use Rattle.std.proofs.Common.{◌≡◌, ℕ, Bool, true, false, cond, List, [], Option, Some, None, length, refl, ap, ltb, arith, get_or}
use Rattle.std.specs.Prelude.{is_some, position, slice_get}
use Rattle.std.specs.Option.{option_map}
use Rattle.std.specs.List.{position_or_len}
use Rattle.std.specs.Str.{bytes_eq}
use Rattle.std.proofs.lemmas.Bool.{ltb-true, ltb-false}
use Rattle.std.proofs.lemmas.List.Folds.{find_at}
use Rattle.std.proofs.lemmas.Option.{slice_get-get_or, slice_get_past}
use Rattle.route_io.specs.Files.{NamedFile, first_of_name, left_of, IsWithin}

-- The place is that of the first file of this name, or none where there is no such file.
pub record FirstPlace (files : List NamedFile) (name : List ℕ) (place : Option ℕ) : Type 0 where
  pub within : IsWithin files place 0
  pub missing : is_some place ≡ false → first_of_name files name ≡ None
  pub first : is_some place ≡ true → first_of_name files name ≡ Some (left_of files place 0)

-- as the index is inside the files or past their end
at_index : (files : List NamedFile) (name : List ℕ) (index : ℕ) (inside : Bool)
    → first_of_name files name ≡ option_map (λ (file : NamedFile). file.bytes) (slice_get files index)
    → ltb index (length files) ≡ inside → FirstPlace files name (cond inside (Some index) None)
at_index files name index true found e =
    let empty : NamedFile = record { name = []; bytes = [] } in
    let there : slice_get files index ≡ Some (get_or files index empty) = slice_get-get_or files index empty (ltb-true index (length files) e) in
    record { within = rw there (omega arith); missing = λ none. cc; first = λ some. rw (found, there) refl }
at_index files name index false found e =
    let past : slice_get files index ≡ None = slice_get_past files index (ltb-false index (length files) e) in
    record { within = refl; missing = λ none. rw (found, past) refl; first = λ some. cc }

first_place : (files : List NamedFile) (name : List ℕ) → FirstPlace files name (position (λ file. bytes_eq file.name name) files)
first_place files name =
    let test : NamedFile → Bool = λ file. bytes_eq file.name name in
    at_index files name (position_or_len test files) (ltb (position_or_len test files) (length files))
    (ap (option_map (λ (file : NamedFile). file.bytes)) (find_at test files)) refl

-- what a look-up in these files found
pub looked_up : (files shown : List NamedFile) (name : List ℕ) (place : Option ℕ) → shown ≡ files
    → place ≡ position (λ file. bytes_eq file.name name) shown → FirstPlace files name place
looked_up files shown name place same e = rw (e, same) (first_place files name)
