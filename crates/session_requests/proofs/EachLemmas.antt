-- Fields that are read one by one.
use Rattle.std.proofs.Common.{◌≡◌, ℕ, ◌+◌, ◌-◌, ◌<◌, ◌≤◌, suc, List, [], ◌∷◌, ◌++◌, Option, Some, None, length, take, refl, sym, ap, ◌∙◌, arith, rules}
use Rattle.std.specs.Prelude.{option_map, slice_set}
use Rattle.std.proofs.lemmas.Grind.{take-set_at}
use Rattle.std.proofs.lemmas.List.{append_assoc}
use Rattle.line_text.specs.Fields.{FirstField, fields_of}
use Rattle.session_requests.specs.Readings.{each_of, pair_of}

-- The first i of d fields are read, and the others stand in the rest.
pub record ReadsEach {A : Type 0} (read : List ℕ → Option A) (d i : ℕ) (text rest : List ℕ) (items : List A) : Type 0 where
  pub long : d ≤ length items
  pub same : each_of read d (fields_of text) ≡ option_map (λ back. take i items ++ back) (each_of read (d - i) (fields_of rest))

module _ {A : Type 0} (read : List ℕ → Option A) where
  each_more : (n : ℕ) (field : List ℕ) (fields : List (List ℕ)) (front : List A) (value : A) → read field ≡ Some value
      → option_map (λ back. front ++ back) (each_of read (suc n) (field ∷ fields)) ≡ option_map (λ back. (front ++ value ∷ []) ++ back) (each_of read n fields)
  each_more n field fields front value e = rw e (by_rest (each_of read n fields)) where
    by_rest : (rest : Option (List A)) → option_map (λ back. front ++ back) (option_map (λ pair. pair.0 ∷ pair.1) (pair_of (Some value) rest))
        ≡ option_map (λ back. (front ++ value ∷ []) ++ back) rest
    by_rest None = refl
    by_rest (Some back) = ap Some (sym (append_assoc front (value ∷ []) back))

  -- one more field is read
  pub reads_more : (d i : ℕ) (text rest : List ℕ) (items : List A) → ReadsEach read d i text rest items → i < d
      → (field after : List ℕ) (value : A) → FirstField rest field after → read field ≡ Some value
      → ReadsEach read d (i + 1) text after (slice_set items i value)
  reads_more d i text rest items so_far more field after value first e =
      let left : d - i ≡ suc (d - (i + 1)) = omega arith in
      let within : i < length items = omega (arith, so_far.long) in
      record {
        long = search rules;
        same = so_far.same ∙ rw (left, first.fields, take-set_at items i (i + 1) value refl within)
            (each_more (d - (i + 1)) field (fields_of after) (take i items) value e);
      }
