-- The fields of a text, and where they stand.
use Rattle.std.proofs.Common.{◌≡◌, ℕ, ◌<◌, Bool, true, false, cond, List, [], ◌∷◌, ◌++◌, length, take, drop, get_or, refl, sym, ap, ◌∙◌, arith, filter, ⊎_elim, ◌+◌, ◌-◌, slice_range, append_assoc, length-append}
use Rattle.std.specs.List.{slice_split, prefix_len, All, AllPass, onto_first}
use Rattle.std.proofs.lemmas.Bool.{cases_lt, lt-ltb, not-false, not-true}
use Rattle.std.proofs.lemmas.List.{append-nil, drop_more, drop_all, take-append-drop, length-take, get_or-take, nil_from_length}
use Rattle.std.proofs.lemmas.List.Elements.{All-from_get_or, All-head, All-tail, All-weaker, filter-append}
use Rattle.std.proofs.lemmas.List.Splits.{slice_split_at, slice_split_none, slice_split-cons_yes, length-slice_split}
use Rattle.std.proofs.lemmas.List.Sums.{prefix_len_passes, prefix_len_stops}
use Rattle.std.proofs.Math.Seq.{take-append_seam, drop-append_seam, drop-append-add}
use Rattle.line_text.specs.Fields.{is_blank, is_filled, has_byte, fields_of, BeginsBlank, FirstByte, FirstField, FieldAt}

-- ---- the first field

-- a blank in front of a text counts for nothing
pub fields_of-blank : (byte : ℕ) (text : List ℕ) → is_blank byte ≡ true → fields_of (byte ∷ text) ≡ fields_of text
fields_of-blank byte text blank = ap (filter has_byte) (slice_split-cons_yes is_blank byte text blank)

fields_of-blanks : (blanks text : List ℕ) → AllPass is_blank blanks → fields_of (blanks ++ text) ≡ fields_of text
fields_of-blanks [] text all = refl
fields_of-blanks (byte ∷ blanks) text all =
    fields_of-blank byte (blanks ++ text) (All-head (λ b. is_blank b ≡ true) byte blanks all)
    ∙ fields_of-blanks blanks text (All-tail (λ b. is_blank b ≡ true) byte blanks all)

-- bytes other than blanks, up to the end or a blank, are a field
module _ (field : List ℕ) (some : 0 < length field) (none_blank : All (λ byte. is_blank byte ≡ false) field) where
  keeps : (parts : List (List ℕ)) → filter has_byte (field ∷ parts) ≡ field ∷ filter has_byte parts
  keeps parts =
      ap (λ b. cond b (field ∷ filter has_byte parts) (filter has_byte parts)) (lt-ltb 0 (length field) some)

  pub fields_of-field : (rest : List ℕ) → BeginsBlank rest → fields_of (field ++ rest) ≡ field ∷ fields_of rest
  fields_of-field [] begins = ap fields_of (append-nil field) ∙ ap (filter has_byte) (slice_split_none is_blank field none_blank) ∙ keeps []
  fields_of-field (blank ∷ rest) begins =
      ap (filter has_byte) (slice_split_at is_blank field blank rest none_blank begins) ∙ keeps (slice_split is_blank rest)
      ∙ ap (λ fields. field ∷ fields) (sym (fields_of-blank blank rest begins))

-- the longest front of bytes of a kind, and what stands behind it
module _ (p : ℕ → Bool) (text : List ℕ) where
  pub all_before : AllPass p (take (prefix_len p text) text)
  all_before =
      All-from_get_or (λ byte. p byte ≡ true) _ 0 (λ i lt.
      let before : i < prefix_len p text = omega (arith, length-take (prefix_len p text) text) in
      ap p (get_or-take _ text i 0 before) ∙ prefix_len_passes p text i 0 before)

  behind_all : (P : List ℕ → Type 0) → P [] → ((byte : ℕ) (more : List ℕ) → p byte ≡ false → P (byte ∷ more)) → P (drop (prefix_len p text) text)
  behind_all P none some =
      ⊎_elim (λ lt. rw (drop_more text (prefix_len p text) 0 lt) (some _ _ (prefix_len_stops p text 0 lt)))
      (λ le. rw (drop_all (prefix_len p text) text le) none)
      (cases_lt (prefix_len p text) (length text))

-- Of a text this stands behind its blanks.
module _ (text filled : List ℕ) (e : filled ≡ drop (prefix_len is_blank text) text) where
  abbrev blanks : List ℕ
  blanks = take (prefix_len is_blank text) text

  parts : text ≡ blanks ++ filled
  parts = sym (take-append-drop (prefix_len is_blank text) text) ∙ ap (λ bytes. blanks ++ bytes) (sym e)

  no_blanks : fields_of text ≡ fields_of filled
  no_blanks = ap fields_of parts ∙ fields_of-blanks blanks filled (all_before is_blank text)

  pub no_field : length filled ≡ 0 → fields_of text ≡ []
  no_field none = no_blanks ∙ ap fields_of (nil_from_length filled none)

  first_filled : 0 < length filled → 0 < prefix_len is_filled filled
  first_filled =
      rw e (behind_all is_blank text (λ bytes. 0 < length bytes → 0 < prefix_len is_filled bytes) (λ some. absurd (omega arith))
      (λ byte more is some. rw is (omega arith)))

  pub first_field : (size : ℕ) (field rest : List ℕ) → 0 < length filled → size ≡ prefix_len is_filled filled
      → field ≡ take size filled → rest ≡ drop size filled → FirstField text field rest
  first_field size field rest some sized front back =
      let long : 0 < length field = omega (arith, first_filled some, ap length front, length-take size filled) in
      let whole : filled ≡ field ++ rest = sym (take-append-drop size filled) ∙ rw (front, back) refl in
      let ends : BeginsBlank rest = rw (back, sized) (behind_all is_filled filled BeginsBlank tt (λ byte more. not-false (is_blank byte))) in
      let none_blank : All (λ byte. is_blank byte ≡ false) field =
      All-weaker (λ byte. is_filled byte ≡ true) (λ byte. is_blank byte ≡ false) (λ byte. not-true (is_blank byte)) field
      (rw (front, sized) (all_before is_filled filled)) in
      record {
        blanks = blanks;
        parts = parts ∙ ap (λ bytes. blanks ++ bytes) whole;
        only_blanks = all_before is_blank text;
        filled = long;
        ends = ends;
        fields = no_blanks ∙ ap fields_of whole ∙ fields_of-field field long none_blank rest ends;
      }

  -- and then a byte other than a blank stands there first
  pub begins_with : 0 < length filled → FirstByte text (get_or filled 0 0)
  begins_with some =
      let size = prefix_len is_filled filled in
      let first : FirstField text (take size filled) (drop size filled) = first_field size (take size filled) (drop size filled) some refl refl refl in
      record {
        field = take size filled;
        others = fields_of (drop size filled);
        fields = first.fields;
        begins = get_or-take size filled 0 0 (first_filled some);
      }

-- ---- the field of a number

-- one byte more in front of the parts
split-step : (byte : ℕ) (whole front rest : List (List ℕ)) → whole ≡ front ++ rest → 0 < length front → (blank : Bool)
    → cond blank ([] ∷ whole) (onto_first byte whole) ≡ cond blank ([] ∷ front) (onto_first byte front) ++ rest
split-step byte whole front rest e some true = ap (λ parts. [] ∷ parts) e
split-step byte whole [] rest e some false = absurd (omega arith)
split-step byte whole (part ∷ others) rest e some false = ap (onto_first byte) e

-- a blank parts a text
split-append : (front : List ℕ) (blank : ℕ) (rest : List ℕ) → is_blank blank ≡ true
    → slice_split is_blank (front ++ blank ∷ rest) ≡ slice_split is_blank front ++ slice_split is_blank rest
split-append [] blank rest e = slice_split-cons_yes is_blank blank rest e
split-append (byte ∷ front) blank rest e =
    split-step byte (slice_split is_blank (front ++ blank ∷ rest)) (slice_split is_blank front) (slice_split is_blank rest)
    (split-append front blank rest e) (omega (arith, length-slice_split is_blank front)) (is_blank byte)

pub fields_of-append : (front rest : List ℕ) → BeginsBlank rest → fields_of (front ++ rest) ≡ fields_of front ++ fields_of rest
fields_of-append front [] begins = ap fields_of (append-nil front) ∙ sym (append-nil (fields_of front))
fields_of-append front (blank ∷ rest) begins =
    ap (filter has_byte) (split-append front blank rest begins)
    ∙ filter-append has_byte (slice_split is_blank front) (slice_split is_blank rest)
    ∙ ap (λ fields. fields_of front ++ filter has_byte fields) (sym (slice_split-cons_yes is_blank blank rest begins))

-- blanks behind a text count for nothing
blanks_behind : (front blanks : List ℕ) → AllPass is_blank blanks → fields_of (front ++ blanks) ≡ fields_of front
blanks_behind front [] all = ap fields_of (append-nil front)
blanks_behind front (blank ∷ blanks) all =
    fields_of-append front (blank ∷ blanks) (All-head (λ byte. is_blank byte ≡ true) blank blanks all)
    ∙ ap (λ fields. fields_of front ++ fields) (ap fields_of (sym (append-nil (blank ∷ blanks))) ∙ fields_of-blanks (blank ∷ blanks) [] all)
    ∙ append-nil (fields_of front)

-- In front of the rest stand this many fields of the text, and no field runs on into it.
pub record BehindFields (text rest : List ℕ) (i : ℕ) : Type 0 where
  pub front : List ℕ
  pub parts : text ≡ front ++ rest
  pub count : length (fields_of front) ≡ i
  pub fields : fields_of text ≡ fields_of front ++ fields_of rest

-- a field that stands between these bytes
field_between : (front field after : List ℕ) (i : ℕ) → 0 < length field → length (fields_of front) ≡ i
    → fields_of (front ++ (field ++ after)) ≡ fields_of front ++ field ∷ fields_of after
    → FieldAt (front ++ (field ++ after)) i (length front) (length front + length field)
field_between front field after i some count fields =
    let size : length front + length field - length front ≡ length field = omega arith in
    let before = take-append_seam front (field ++ after) in
    let here : slice_range (front ++ (field ++ after)) (length front) (length front + length field) ≡ field =
    ap (λ n. take n (drop (length front) (front ++ (field ++ after)))) size
    ∙ ap (take (length field)) (drop-append_seam front (field ++ after)) ∙ take-append_seam field after in
    let behind = drop-append-add front (field ++ after) (length field) ∙ drop-append_seam field after in
    record {
      filled = omega arith;
      within = omega (arith, length-append front (field ++ after), length-append field after);
      before = ap (λ bytes. length (fields_of bytes)) before ∙ count;
      fields = rw (before, here, behind) fields;
    }

-- A field of the rest is the next one of the text.
module _ (text rest field after : List ℕ) (i : ℕ) (behind : BehindFields text rest i) (found : FirstField rest field after) where
  text_is : text ≡ (behind.front ++ found.blanks) ++ (field ++ after)
  text_is = behind.parts ∙ ap (λ bytes. behind.front ++ bytes) found.parts ∙ sym (append_assoc behind.front found.blanks (field ++ after))

  fields_are : fields_of text ≡ fields_of behind.front ++ field ∷ fields_of after
  fields_are = behind.fields ∙ ap (λ fields. fields_of behind.front ++ fields) found.fields

  pub behind_more : BehindFields text after (i + 1)
  behind_more =
      let front = (behind.front ++ found.blanks) ++ field in
      let parts : text ≡ front ++ after = text_is ∙ sym (append_assoc (behind.front ++ found.blanks) field after) in
      let fields : fields_of text ≡ fields_of front ++ fields_of after = ap fields_of parts ∙ fields_of-append front after found.ends in
      record {
        front = front;
        parts = parts;
        count = omega (
          arith,
          behind.count,
          ap length fields,
          ap length fields_are,
          length-append (fields_of front) (fields_of after),
          length-append (fields_of behind.front) (field ∷ fields_of after),
        );
        fields = fields;
      }

  pub field_at : (n start end : ℕ) → i ≡ n → end ≡ length text - length after → start ≡ end - length field → FieldAt text n start end
  field_at n start end nth ends starts =
      let front = behind.front ++ found.blanks in
      let no_more = blanks_behind behind.front found.blanks found.only_blanks in
      let sizes = length-append field after in
      let first : start ≡ length front = omega (arith, ap length text_is, length-append front (field ++ after)) in
      let last : end ≡ length front + length field = omega (arith, ap length text_is, length-append front (field ++ after)) in
      rw (first, last, text_is) (field_between front field after n found.filled (ap length no_more ∙ behind.count ∙ nth)
      (sym (ap fields_of text_is) ∙ fields_are ∙ ap (λ fields. fields ++ field ∷ fields_of after) (sym no_more)))
