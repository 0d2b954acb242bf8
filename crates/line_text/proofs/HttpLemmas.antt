-- The last field of a line, byte by byte.
use Rattle.std.proofs.Common.{◌≡◌, ℕ, ◌+◌, ◌-◌, ◌<◌, ◌&&◌, zero, suc, Bool, true, false, cond, List, [], ◌∷◌, ◌++◌, length, take, drop, get_or, codes, eqb, refl, sym, ap, ◌∙◌, arith, append_assoc, append-nil, length-append}
use Rattle.std.specs.List.{AllPass}
use Rattle.std.proofs.lemmas.Bool.{eq-eqb, eqb-true, eqb-false, false_from_ne_true, not-true}
use Rattle.std.proofs.lemmas.List.{take_all, get_or-append-add, take-append-drop}
use Rattle.std.proofs.lemmas.List.Elements.{All-append, All-cons, All-nil, All-take, All-weaker}
use Rattle.std.proofs.lemmas.Slice.Eq.{starts_is}
use Rattle.std.proofs.Math.Seq.{take-append-add, get_or-append_seam}
use Rattle.line_text.specs.Fields.{is_blank, is_filled, fields_of}
use Rattle.line_text.specs.Http.{names_http, last_names_http, is_http}
use Rattle.line_text.specs.LastFields.{Shows, Stands, begin_alike, begins, ends_named, goes_on, goes_on_in_name, is_named}
use Rattle.line_text.specs.Lines.{without_cr}
use Rattle.line_text.specs.declared.http.LastField.{LastField}
use Rattle.line_text.specs.declared.http.LastField.TheVariants.{Ended, Begun, Named, Cr, Other}
use Rattle.std.proofs.lemmas.Bool.Decides.{nat_tests}
use Rattle.line_text.proofs.LineLemmas.{length-without_cr}
use Rattle.line_text.proofs.FieldLemmas.{fields_of-append, fields_of-blank, fields_of-field}

-- ---- a field against the name

named_by : (field more : List ℕ) → field ≡ codes "HTTP/" ++ more → names_http field ≡ true
named_by field more e = (starts_is (λ a b. (eqb-true a b, eq-eqb a b)) field (codes "HTTP/") (names_http field) refl).1 more e

named_is : (field : List ℕ) → names_http field ≡ true → field ≡ codes "HTTP/" ++ drop 5 field
named_is field e = (starts_is (λ a b. (eqb-true a b, eq-eqb a b)) field (codes "HTTP/") (names_http field) refl).0 e

-- bytes behind a text that differs from a name leave it so
alike_step : (a b : Bool) → (a ≡ false → b ≡ false) → (same : Bool) → (same && a) ≡ false → (same && b) ≡ false
alike_step a b stays true e = stays e
alike_step a b stays false e = refl

alike_front : (name text more : List ℕ) → begin_alike name text ≡ false → begin_alike name (text ++ more) ≡ false
alike_front [] text more e = e
alike_front (byte ∷ name) [] more e = absurd cc
alike_front (byte ∷ name) (other ∷ text) more e =
    alike_step (begin_alike name text) (begin_alike name (text ++ more)) (alike_front name text more) (eqb other byte) e

-- a text that begins with the name is alike
alike_named : (more : List ℕ) → begin_alike (codes "HTTP/") (codes "HTTP/" ++ more) ≡ true
alike_named more = refl

-- a field that differs from the name isn't named, nor is a front of it
not_named : (field : List ℕ) (size : ℕ) → begin_alike (codes "HTTP/") field ≡ false → names_http (take size field) ≡ false
not_named field size differs =
    false_from_ne_true (names_http (take size field)) (λ named.
    let front = take size field in
    let whole : codes "HTTP/" ++ (drop 5 front ++ drop size field) ≡ field =
    sym (append_assoc (codes "HTTP/") (drop 5 front) (drop size field)) ∙ ap (λ text. text ++ drop size field) (sym (named_is front named)) ∙ take-append-drop size field in
    let no : true ≡ false = sym (alike_named (drop 5 front ++ drop size field)) ∙ ap (begin_alike (codes "HTTP/")) whole ∙ differs in cc)

-- ---- one byte more

stands_first : (named : Bool) (byte : ℕ) → Stands (begins named byte) named (byte ∷ [])
stands_first named byte = by (eqb byte 72) refl where
  by_cr : (cr : Bool) → (named && eqb byte 13) ≡ cr → eqb byte 72 ≡ false → Stands (cond cr Cr Other) named (byte ∷ [])
  by_cr true e other = both named e where
    both : (n : Bool) → (n && eqb byte 13) ≡ true → (byte ∷ [] ≡ 13 ∷ []) × (n ≡ true)
    both true e = (ap (λ b. b ∷ []) (eqb-true byte 13 e), refl)
    both false e = absurd cc
  by_cr false e other = (ap (λ same. same && true) other, λ cr. not_both named e (ap (λ l. get_or l 0 0) cr)) where
    not_both : (n : Bool) → (n && eqb byte 13) ≡ false → byte ≡ 13 → n ≡ false
    not_both true e is = absurd (eqb-false byte 13 e is)
    not_both false e is = refl

  by : (h : Bool) → eqb byte 72 ≡ h → Stands (cond h (Begun 1) (cond (named && eqb byte 13) Cr Other)) named (byte ∷ [])
  by true e = (omega arith, omega arith, ap (λ b. b ∷ []) (eqb-true byte 72 e))
  by false e = by_cr (named && eqb byte 13) refl e

-- behind a part of the name its next byte, or another one
stands_next : (named same : Bool) (bytes next byte : ℕ) (last : LastField) → eqb byte next ≡ same
    → (byte ≡ next → Stands last named (take bytes (codes "HTTP/") ++ byte ∷ []))
    → begin_alike (codes "HTTP/") (take bytes (codes "HTTP/") ++ byte ∷ []) ≡ same
    → 0 < length (take bytes (codes "HTTP/"))
    → Stands (cond same last Other) named (take bytes (codes "HTTP/") ++ byte ∷ [])
stands_next named true bytes next byte last e there alike some = there (eqb-true byte next e)
stands_next named false bytes next byte last e there alike some =
    (alike, λ cr. absurd (omega (arith, ap length cr, length-append (take bytes (codes "HTTP/")) (byte ∷ []))))

and-true : (b : Bool) → (b && true) ≡ b
and-true true = refl
and-true false = refl

stands_in_name : (named : Bool) (bytes byte : ℕ) → 0 < bytes → bytes < 5
    → Stands (goes_on_in_name bytes byte) named (take bytes (codes "HTTP/") ++ byte ∷ [])
stands_in_name named zero byte some few = absurd (omega arith)
stands_in_name named (suc zero) byte some few =
    stands_next named (eqb byte 84) 1 84 byte (Begun 2) refl (λ is. (omega arith, omega arith, rw is refl)) (and-true (eqb byte 84)) (omega arith)
stands_in_name named (suc (suc zero)) byte some few =
    stands_next named (eqb byte 84) 2 84 byte (Begun 3) refl (λ is. (omega arith, omega arith, rw is refl)) (and-true (eqb byte 84)) (omega arith)
stands_in_name named (suc (suc (suc zero))) byte some few =
    stands_next named (eqb byte 80) 3 80 byte (Begun 4) refl (λ is. (omega arith, omega arith, rw is refl)) (and-true (eqb byte 80)) (omega arith)
stands_in_name named (suc (suc (suc (suc zero)))) byte some few =
    stands_next named (eqb byte 47) 4 47 byte Named refl (λ is. ([], rw is refl)) (and-true (eqb byte 47)) (omega arith)
stands_in_name named (suc (suc (suc (suc (suc n))))) byte some few = absurd (omega arith)

stands_on : (last : LastField) (named : Bool) (field : List ℕ) (byte : ℕ) → Stands last named field → Stands (goes_on last byte) named (field ++ byte ∷ [])
stands_on (Ended ended) named field byte (none, same) = rw (none, same) (stands_first named byte)
stands_on (Begun bytes) named field byte (some, few, is) = rw is (stands_in_name named bytes byte some few)
stands_on Named named field byte (more, is) = (more ++ byte ∷ [], rw is (append_assoc (codes "HTTP/") more (byte ∷ [])))
stands_on Cr named field byte (is, behind) = rw is (refl, λ cr. absurd (omega (arith, ap length cr)))
stands_on Other named field byte (differs, no_cr) =
    (alike_front (codes "HTTP/") field (byte ∷ []) differs, λ cr. absurd (long field differs cr)) where
      long : (field : List ℕ) → begin_alike (codes "HTTP/") field ≡ false → field ++ byte ∷ [] ≡ 13 ∷ [] → ⊥
      long [] differs cr = absurd cc
      long (first ∷ field) differs cr = omega (arith, ap length cr, length-append field (byte ∷ []))

pub shows_on : (last : LastField) (text : List ℕ) (byte : ℕ) → is_blank byte ≡ false → Shows last text → Shows (goes_on last byte) (text ++ byte ∷ [])
shows_on last text byte filled shows = record {
  front = shows.front;
  field = shows.field ++ byte ∷ [];
  parts = ap (λ bytes. bytes ++ byte ∷ []) shows.parts ∙ append_assoc shows.front shows.field (byte ∷ []);
  ends = shows.ends;
  no_cr = shows.no_cr;
  filled = All-append (λ b. is_filled b ≡ true) shows.field (byte ∷ []) shows.filled
      (All-cons (λ b. is_filled b ≡ true) byte [] (rw filled refl) (All-nil _));
  stands = stands_on last _ shows.field byte shows.stands;
}

-- ---- the field ends

last_of-append : (fields : List (List ℕ)) (field : List ℕ) → last_names_http (fields ++ field ∷ []) ≡ names_http field
last_of-append [] field = refl
last_of-append (first ∷ []) field = refl
last_of-append (first ∷ next ∷ fields) field = last_of-append (next ∷ fields) field

-- bytes other than blanks are one field
one_field : (field : List ℕ) → 0 < length field → AllPass is_filled field → fields_of field ≡ field ∷ []
one_field field some filled =
    ap fields_of (sym (append-nil field))
    ∙ fields_of-field field some (All-weaker (λ b. is_filled b ≡ true) (λ b. is_blank b ≡ false) (λ b. not-true (is_blank b)) field filled) [] tt

-- the last field of fields and one that may be empty
last_with : (fields : List (List ℕ)) (field : List ℕ) → AllPass is_filled field → (named : Bool) → (0 < length field → names_http field ≡ named)
    → (field ≡ [] → last_names_http fields ≡ named) → last_names_http (fields ++ fields_of field) ≡ named
last_with fields [] filled named some none = ap last_names_http (append-nil fields) ∙ none refl
last_with fields (byte ∷ field) filled named some none =
    ap (λ more. last_names_http (fields ++ more)) (one_field (byte ∷ field) (omega arith) filled) ∙ last_of-append fields (byte ∷ field)
    ∙ some (omega arith)

stands_ended : (last : LastField) (named : Bool) (field : List ℕ) → Stands last named field → (0 < length field → names_http field ≡ is_named last)
    × (field ≡ [] → named ≡ is_named last)
stands_ended (Ended ended) named field (none, same) = (λ some. absurd (omega (arith, ap length none)), λ _. sym same)
stands_ended (Begun bytes) named field (some, few, is) = rw is (by bytes some few) where
  by : (n : ℕ) → 0 < n → n < 5 → (0 < length (take n (codes "HTTP/")) → names_http (take n (codes "HTTP/")) ≡ false)
      × (take n (codes "HTTP/") ≡ [] → named ≡ false)
  by zero some few = absurd (omega arith)
  by (suc zero) some few = (λ _. refl, λ e. absurd cc)
  by (suc (suc zero)) some few = (λ _. refl, λ e. absurd cc)
  by (suc (suc (suc zero))) some few = (λ _. refl, λ e. absurd cc)
  by (suc (suc (suc (suc zero)))) some few = (λ _. refl, λ e. absurd cc)
  by (suc (suc (suc (suc (suc n))))) some few = absurd (omega arith)
stands_ended Named named field (more, is) = (λ _. named_by field more is, λ none. let no : codes "HTTP/" ++ more ≡ [] = sym is ∙ none in absurd cc)
stands_ended Cr named field (is, behind) = rw is (λ _. refl, λ e. absurd cc)
stands_ended Other named field (differs, no_cr) =
    (λ _. ap names_http (sym (whole field)) ∙ not_named field (length field) differs, λ none. let no : true ≡ false = ap (begin_alike (codes "HTTP/")) (sym none) ∙ differs in absurd cc) where
      whole : (field : List ℕ) → take (length field) field ≡ field
      whole field = take_all (length field) field (omega arith)

-- ---- a blank

ends_behind : (text : List ℕ) (blank : ℕ) → is_blank blank ≡ true → fields_of (text ++ blank ∷ []) ≡ fields_of text
ends_behind text blank e =
    fields_of-append text (blank ∷ []) e ∙ ap (λ fields. fields_of text ++ fields) (fields_of-blank blank [] e) ∙ append-nil (fields_of text)

blank_kept : (text : List ℕ) (blank : ℕ) → is_blank blank ≡ true → without_cr (text ++ blank ∷ []) ≡ text ++ blank ∷ []
blank_kept text blank e =
    let line = text ++ blank ∷ [] in
    let size : length line - 1 ≡ length text = omega (arith, length-append text (blank ∷ [])) in
    let last : get_or line (length line - 1) 0 ≡ blank = ap (λ n. get_or line n 0) size ∙ get_or-append_seam text blank [] 0 in
    let other : eqb blank 13 ≡ false = grind (arith, nat_tests) in
    ap (λ b. cond b (take (length line - 1) line) line) (ap (λ byte. eqb byte 13) last ∙ other)

pub shows_ended : (last : LastField) (text : List ℕ) (blank : ℕ) → is_blank blank ≡ true → Shows last text
    → Shows (Ended (is_named last)) (text ++ blank ∷ [])
shows_ended last text blank e shows =
    let ended = stands_ended last (last_names_http (fields_of shows.front)) shows.field shows.stands in
    record {
      front = text ++ blank ∷ [];
      field = [];
      parts = sym (append-nil (text ++ blank ∷ []));
      ends = λ more. ap fields_of (append_assoc text (blank ∷ []) more) ∙ fields_of-append text (blank ∷ more) e
          ∙ ap (λ fields. fields_of text ++ fields) (fields_of-blank blank more e) ∙ ap (λ fields. fields ++ fields_of more) (sym (ends_behind text blank e));
      no_cr = blank_kept text blank e;
      filled = All-nil _;
      stands = (
        refl,
        sym (ap last_names_http (ends_behind text blank e ∙ ap fields_of shows.parts ∙ shows.ends shows.field)
            ∙ last_with (fields_of shows.front) shows.field shows.filled (is_named last) ended.0 ended.1),
      );
    }

-- ---- the line ends

-- a CR at the end is one of the field that goes on
cr_in_field : (front field : List ℕ) → 0 < length field → without_cr (front ++ field) ≡ front ++ without_cr field
cr_in_field front field some =
    let line = front ++ field in
    let size : length line - 1 ≡ length front + (length field - 1) = omega (arith, length-append front field) in
    let last : get_or line (length line - 1) 0 ≡ get_or field (length field - 1) 0 =
    ap (λ n. get_or line n 0) size ∙ get_or-append-add front field (length field - 1) 0 in
    let cut : take (length line - 1) line ≡ front ++ take (length field - 1) field =
    ap (λ n. take n line) size ∙ take-append-add front field (length field - 1) in
    ap (λ b. cond b (take (length line - 1) line) line) (ap (λ byte. eqb byte 13) last)
    ∙ by (eqb (get_or field (length field - 1) 0) 13) (take (length line - 1) line) cut where
      by : (cr : Bool) (shorter : List ℕ) → shorter ≡ front ++ take (length field - 1) field
          → cond cr shorter (front ++ field) ≡ front ++ cond cr (take (length field - 1) field) field
      by true shorter cut = cut
      by false shorter cut = refl

only_cr : (field : List ℕ) → 0 < length field → without_cr field ≡ [] → field ≡ 13 ∷ []
only_cr [] some e = absurd (omega arith)
only_cr (byte ∷ []) some e = by (eqb byte 13) refl e where
  by : (cr : Bool) → eqb byte 13 ≡ cr → cond cr [] (byte ∷ []) ≡ [] → byte ∷ [] ≡ 13 ∷ []
  by true is e = ap (λ b. b ∷ []) (eqb-true byte 13 is)
  by false is e = absurd cc
only_cr (byte ∷ next ∷ field) some e = absurd (omega (arith, (length-without_cr (byte ∷ next ∷ field)).1, ap length e))

without_cr-filled : (field : List ℕ) → AllPass is_filled field → AllPass is_filled (without_cr field)
without_cr-filled field filled = by (eqb (get_or field (length field - 1) 0) 13) where
  by : (cr : Bool) → AllPass is_filled (cond cr (take (length field - 1) field) field)
  by true = All-take (λ b. is_filled b ≡ true) (length field - 1) field filled
  by false = filled

not_named-cut : (field : List ℕ) → begin_alike (codes "HTTP/") field ≡ false → names_http (without_cr field) ≡ false
not_named-cut field differs = by (eqb (get_or field (length field - 1) 0) 13) where
  by : (cr : Bool) → names_http (cond cr (take (length field - 1) field) field) ≡ false
  by true = not_named field (length field - 1) differs
  by false = ap names_http (sym (take_all (length field) field (omega arith))) ∙ not_named field (length field) differs

named_cut : (more : List ℕ) → names_http (without_cr (codes "HTTP/" ++ more)) ≡ true
named_cut [] = refl
named_cut (byte ∷ more) = named_by _ (without_cr (byte ∷ more)) (cr_in_field (codes "HTTP/") (byte ∷ more) (omega arith))

stands_cut : (last : LastField) (named : Bool) (field : List ℕ) → Stands last named field → 0 < length field
    → (0 < length (without_cr field) → names_http (without_cr field) ≡ ends_named last) × (without_cr field ≡ [] → named ≡ ends_named last)
stands_cut (Ended ended) named field (none, same) there = absurd (omega (arith, ap length none))
stands_cut (Begun bytes) named field (some, few, is) there = rw is (by bytes some few) where
  by : (n : ℕ) → 0 < n → n < 5 → (0 < length (without_cr (take n (codes "HTTP/"))) → names_http (without_cr (take n (codes "HTTP/"))) ≡ false)
      × (without_cr (take n (codes "HTTP/")) ≡ [] → named ≡ false)
  by zero some few = absurd (omega arith)
  by (suc zero) some few = (λ _. refl, λ e. absurd cc)
  by (suc (suc zero)) some few = (λ _. refl, λ e. absurd cc)
  by (suc (suc (suc zero))) some few = (λ _. refl, λ e. absurd cc)
  by (suc (suc (suc (suc zero)))) some few = (λ _. refl, λ e. absurd cc)
  by (suc (suc (suc (suc (suc n))))) some few = absurd (omega arith)
stands_cut Named named field (more, is) there = (
  λ _. ap (λ f. names_http (without_cr f)) is ∙ named_cut more,
  λ none. let cr : codes "HTTP/" ++ more ≡ 13 ∷ [] = sym is ∙ only_cr field there none in absurd (omega (arith, ap length cr)),
)
stands_cut Cr named field (is, behind) there = rw is (λ some. absurd (omega arith), λ _. behind)
stands_cut Other named field (differs, no_cr) there = (λ _. not_named-cut field differs, λ none. no_cr (only_cr field there none))

ended_is : (last : LastField) (named : Bool) → Stands last named [] → named ≡ ends_named last
ended_is (Ended ended) named (none, same) = sym same
ended_is (Begun bytes) named (some, few, is) = by bytes some few is where
  by : (n : ℕ) → 0 < n → n < 5 → [] ≡ take n (codes "HTTP/") → named ≡ false
  by zero some few is = absurd (omega arith)
  by (suc n) some few is = absurd cc
ended_is Named named (more, is) = absurd cc
ended_is Cr named (is, behind) = absurd cc
ended_is Other named (differs, no_cr) = absurd cc

http_by : (last : LastField) (front field : List ℕ) → ((more : List ℕ) → fields_of (front ++ more) ≡ fields_of front ++ fields_of more)
    → without_cr front ≡ front → AllPass is_filled field → Stands last (last_names_http (fields_of front)) field
    → is_http (front ++ field) ≡ ends_named last
http_by last front [] ends no_cr filled stands =
    ap is_http (append-nil front) ∙ ap (λ text. last_names_http (fields_of text)) no_cr ∙ ended_is last _ stands
http_by last front (byte ∷ field) ends no_cr filled stands =
    let cut = stands_cut last _ (byte ∷ field) stands (omega arith) in
    ap (λ text. last_names_http (fields_of text)) (cr_in_field front (byte ∷ field) (omega arith))
    ∙ ap last_names_http (ends (without_cr (byte ∷ field)))
    ∙ last_with (fields_of front) (without_cr (byte ∷ field)) (without_cr-filled (byte ∷ field) filled) (ends_named last) cut.0 cut.1

pub shows_http : (last : LastField) (line : List ℕ) → Shows last line → ends_named last ≡ is_http line
shows_http last line shows =
    sym (ap is_http shows.parts ∙ http_by last shows.front shows.field shows.ends shows.no_cr shows.filled shows.stands)

pub shows_none : Shows (Ended false) []
shows_none = record { front = []; field = []; parts = refl; ends = λ more. refl; no_cr = refl; filled = All-nil _; stands = (refl, refl) }
