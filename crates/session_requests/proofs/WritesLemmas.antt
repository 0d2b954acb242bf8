-- What is read of fields is what they write.
use Rattle.std.proofs.Common.{◌≡◌, ℕ, zero, suc, Bool, true, false, List, [], ◌∷◌, Option, Some, None, length, map, refl, sym, ap, subst}
use Rattle.std.specs.Prelude.{option_map, codes, if◌then◌else◌}
use Rattle.std.specs.Str.{bytes_eq}
use Rattle.std.specs.List.{AllZip}
use Rattle.std.proofs.lemmas.Slice.Eq.{bytes_eq-Decides}
use Rattle.line_text.specs.Numerals.{numeral_of}
use Rattle.line_text.specs.declared.numerals.Numeral.{Numeral}
use Rattle.line_text.specs.declared.numerals.Numeral.TheVariants.{NotDigits, Above, Value}
use Rattle.session_requests.specs.Readings.{each_of, number_of, one_from, pair_of, place_of, two_from, value_in, within_from}
use Rattle.session_requests.specs.Tokens.{Token, Writes, max_number, max_bound}
use Rattle.session_requests.specs.Tokens.Token.{Number, Bound}

-- what is mapped to a value holds of that value
pub mapped : {A B : Type 0} (f : A → B) (P : B → Type 0) (some : Option A) (b : B) → option_map f some ≡ Some b
    → ((a : A) → some ≡ Some a → P (f a)) → P b
mapped f P None b e each = absurd cc
mapped f P (Some a) b e each = let same : f a ≡ b = cc in subst P same (each a refl)

-- both were read
pub both : {A B : Type 0} (first : Option A) (second : Option B) (pair : A × B) → pair_of first second ≡ Some pair
    → (first ≡ Some pair.0) × (second ≡ Some pair.1)
both None second pair e = absurd cc
both (Some a) None pair e = absurd cc
both (Some a) (Some b) pair e = let same : (a, b) ≡ pair = cc in (ap (λ p. Some p.0) same, ap (λ p. Some p.1) same)

-- the field is the word, or it is not and the rest decides
pub chosen : {A : Type 0} (P : Type 0) (field word : List ℕ) (this other : Option A) (a : A) → (if bytes_eq field word then this else other) ≡ Some a
    → (field ≡ word → this ≡ Some a → P) → (other ≡ Some a → P) → P
chosen P field word this other a e is_word is_other = by_test (bytes_eq field word) refl e where
  by_test : (test : Bool) → bytes_eq field word ≡ test → (if test then this else other) ≡ Some a → P
  by_test true is e = is_word ((bytes_eq-Decides field word).0 is) e
  by_test false is e = is_other e

value_in-some : (numeral : Numeral) (n : ℕ) → value_in numeral ≡ Some n → numeral ≡ Value n
value_in-some NotDigits n e = absurd cc
value_in-some Above n e = absurd cc
value_in-some (Value m) n e = let same : m ≡ n = cc in ap Value same

-- a field writes the number that is read of it
pub writes_number : (field : List ℕ) (n : ℕ) → number_of field ≡ Some n → Writes field (Number n)
writes_number field n e = value_in-some (numeral_of field max_number) n e

-- a field writes the place that is read of it
pub writes_place : (field : List ℕ) (place : Option ℕ) → place_of field ≡ Some place → Writes field (Bound place)
writes_place field place e =
    chosen (Writes field (Bound place)) field (codes "-") (Some None) (option_map Some (value_in (numeral_of field max_bound))) place e
    (λ is same. subst (λ p. Writes field (Bound p)) (let none : None ≡ place = cc in none) is)
    (λ bound. mapped Some (λ p. Writes field (Bound p)) (value_in (numeral_of field max_bound)) place bound
    (λ most value. value_in-some (numeral_of field max_bound) most value))

-- the number that a field writes is read of it
pub reads_number : (field : List ℕ) (n : ℕ) → Writes field (Number n) → number_of field ≡ Some n
reads_number field n writes = rw writes refl

-- the place that a field writes is read of it
pub reads_place : (field : List ℕ) (place : Option ℕ) → Writes field (Bound place) → place_of field ≡ Some place
reads_place field None writes = rw writes refl
reads_place field (Some most) writes = by_test (bytes_eq field (codes "-")) refl where
  by_test : (test : Bool) → bytes_eq field (codes "-") ≡ test
      → (if test then Some None else option_map Some (value_in (numeral_of field max_bound))) ≡ Some (Some most)
  by_test true is = absurd (let dash : numeral_of (codes "-") max_bound ≡ Value most = rw ((bytes_eq-Decides field (codes "-")).0 is) at writes in cc)
  by_test false is = rw writes refl

-- one field writes the number that is read of it
pub writes_one : (fields : List (List ℕ)) (n : ℕ) → one_from fields ≡ Some n → AllZip Writes fields (Number n ∷ [])
writes_one [] n e = absurd cc
writes_one (field ∷ []) n e = (writes_number field n e, tt)
writes_one (field ∷ other ∷ fields) n e = absurd cc

-- the number that one field writes is read of it
pub reads_one : (fields : List (List ℕ)) (n : ℕ) → AllZip Writes fields (Number n ∷ []) → one_from fields ≡ Some n
reads_one [] n writes = absurd writes
reads_one (field ∷ []) n writes = reads_number field n writes.0
reads_one (field ∷ other ∷ fields) n writes = absurd writes.1

-- two fields write the numbers that are read of them
pub writes_two : (fields : List (List ℕ)) (ends : ℕ × ℕ) → two_from fields ≡ Some ends → AllZip Writes fields (Number ends.0 ∷ Number ends.1 ∷ [])
writes_two [] ends e = absurd cc
writes_two (field ∷ fields) ends e =
    let parts = both (number_of field) (one_from fields) ends e in
    (writes_number field ends.0 parts.0, writes_one fields ends.1 parts.1)

-- the numbers that two fields write are read of them
pub reads_two : (fields : List (List ℕ)) (from to : ℕ) → AllZip Writes fields (Number from ∷ Number to ∷ []) → two_from fields ≡ Some (from, to)
reads_two [] from to writes = absurd writes
reads_two (field ∷ fields) from to writes = rw (reads_number field from writes.0, reads_one fields to writes.1) refl

module _ {A : Type 0} (read : List ℕ → Option A) (token : A → Token) where
  -- the fields write what is read of them, if each does
  pub writes_each : ((field : List ℕ) (a : A) → read field ≡ Some a → Writes field (token a)) → (d : ℕ) (fields : List (List ℕ)) (items : List A)
      → each_of read d fields ≡ Some items → AllZip Writes fields (map token items) × (length items ≡ d)
  writes_each each zero [] items e = let none : [] ≡ items = cc in subst (λ xs. AllZip Writes [] (map token xs) × (length xs ≡ zero)) none (tt, refl)
  writes_each each zero (field ∷ fields) items e = absurd cc
  writes_each each (suc n) [] items e = absurd cc
  writes_each each (suc n) (field ∷ fields) items e =
      mapped (λ pair. pair.0 ∷ pair.1) (λ xs. AllZip Writes (field ∷ fields) (map token xs) × (length xs ≡ suc n))
      (pair_of (read field) (each_of read n fields)) items e
      (λ pair some.
      let parts = both (read field) (each_of read n fields) pair some in
      let others = writes_each each n fields pair.1 parts.1 in
      ((each field pair.0 parts.0, others.0), ap suc others.1))

  -- what the fields write is read of them, if it is of each
  pub reads_each : ((field : List ℕ) (a : A) → Writes field (token a) → read field ≡ Some a) → (d : ℕ) (fields : List (List ℕ)) (items : List A)
      → AllZip Writes fields (map token items) → length items ≡ d → each_of read d fields ≡ Some items
  reads_each each d [] [] writes e = rw (sym e) refl
  reads_each each d [] (a ∷ items) writes e = absurd writes
  reads_each each d (field ∷ fields) [] writes e = absurd writes
  reads_each each d (field ∷ fields) (a ∷ items) writes e =
      rw (sym e) (rw (each field a writes.0, reads_each each (length items) fields items writes.1 refl) refl)

-- two numbers and a place for each of d criteria write what is read of them
pub writes_within : (d : ℕ) (fields : List (List ℕ)) (parts : ℕ × ℕ × List (Option ℕ)) → within_from d fields ≡ Some parts
    → AllZip Writes fields (Number parts.0 ∷ Number parts.1 ∷ map Bound parts.2) × (length parts.2 ≡ d)
writes_within d [] parts e = absurd cc
writes_within d (from ∷ []) parts e = absurd cc
writes_within d (from ∷ to ∷ places) parts e =
    mapped (λ pair. (pair.0, pair.1.0, pair.1.1))
    (λ all. AllZip Writes (from ∷ to ∷ places) (Number all.0 ∷ Number all.1 ∷ map Bound all.2) × (length all.2 ≡ d))
    (pair_of (number_of from) (pair_of (number_of to) (each_of place_of d places))) parts e
    (λ pair some.
    let ends = both _ _ pair some in
    let others = both _ _ pair.1 ends.1 in
    let bounds = writes_each place_of Bound writes_place d places pair.1.1 others.1 in
    ((writes_number from pair.0 ends.0, (writes_number to pair.1.0 others.0, bounds.0)), bounds.1))

-- what they write is read of them
pub reads_within : (d : ℕ) (fields : List (List ℕ)) (from to : ℕ) (limit : List (Option ℕ))
    → AllZip Writes fields (Number from ∷ Number to ∷ map Bound limit) → length limit ≡ d → within_from d fields ≡ Some (from, to, limit)
reads_within d [] from to limit writes long = absurd writes
reads_within d (first ∷ []) from to limit writes long = absurd writes.1
reads_within d (first ∷ second ∷ places) from to limit writes long =
    rw (
      reads_number first from writes.0,
      reads_number second to writes.1.0,
      reads_each place_of Bound reads_place d places limit writes.1.1 long,
    ) refl
