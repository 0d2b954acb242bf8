-- Texts of lines that are written, one for each item of a list, as files of records.
use Rattle.std.proofs.Common.{◌≡◌, ℕ, ◌*◌, ◌<◌, ◌≤◌, true, List, [], ◌∷◌, ◌++◌, Some, None, decimal, length, map, refl, sym, ap, ◌∙◌, arith, subst, append_assoc, length-append}
use Rattle.std.specs.Prelude.{◌^◌, if◌then◌else◌}
use Rattle.std.specs.List.{All, cons_option, flat_map}
use Rattle.std.proofs.lemmas.List.Elements.{All-cons, All-head, All-tail, All-map, All-weaker}
use Rattle.std.proofs.lemmas.List.{length-map}
use Rattle.line_text.specs.Lines.{lines_of, without_cr}
use Rattle.line_text.specs.Numerals.{value_of}
use Rattle.line_text.proofs.WrittenLineLemmas.{IsLineText, is_digits-decimal, lines_of-line, value_of-decimal, without_cr-same}
use Rattle.line_text.specs.declared.limits.LineLimits.{LineLimits}
use Rattle.gr_reader.specs.Rules.{LineForm, Rules, form_of, number_of, IsWithinRange}
use Rattle.gr_reader.specs.Rules.LineForm.{Problem, Record}
use Rattle.gr_reader.specs.Files.{IsFile, forms_of}

-- a number in decimal is read as that number
pub number_of-decimal : (n : ℕ) → n < 2 ^ 64 → number_of (decimal n) ≡ Some n
number_of-decimal n fits =
    ap (λ b. if b then Some (value_of (decimal n)) else None) (is_digits-decimal n fits) ∙ ap Some (value_of-decimal n fits)

-- a line with its end
abbrev pub ended : List ℕ → List ℕ
ended line = line ++ 10 ∷ []

module _ {P R : Type 0} (rules : Rules P R) where
  -- The text is a short line, and says this.
  pub record SaysForm (line : List ℕ) (form : LineForm P R) : Type 0 where
    pub text : IsLineText line
    pub short : length line ≤ 100
    pub says : form_of rules line ≡ Some form

module _ {P R X : Type 0} (rules : Rules P R) (line : X → List ℕ) (record_of : X → R) where
  abbrev pub SaysRecord : X → Type 0
  SaysRecord x = SaysForm rules (line x) (Record (record_of x))

  -- the lines of the texts
  lines_of-all : (xs : List X) → All SaysRecord xs → lines_of (flat_map (λ x. ended (line x)) xs) ≡ map line xs
  lines_of-all [] all = refl
  lines_of-all (x ∷ xs) all =
      ap lines_of (append_assoc (line x) (10 ∷ []) (flat_map (λ y. ended (line y)) xs))
      ∙ lines_of-line (line x) (flat_map (λ y. ended (line y)) xs) (All-head SaysRecord x xs all).text
      ∙ ap (λ l. line x ∷ l) (lines_of-all xs (All-tail SaysRecord x xs all))

  says_again : {form : LineForm P R} (text : List ℕ) → SaysForm rules text form → form_of rules (without_cr text) ≡ Some form
  says_again text says = ap (form_of rules) (without_cr-same text says.text) ∙ says.says

  -- what they say
  forms_of-all : (xs : List X) → All SaysRecord xs → forms_of rules (map line xs) ≡ map Record (map record_of xs)
  forms_of-all [] all = refl
  forms_of-all (x ∷ xs) all =
      ap (λ o. cons_option o (forms_of rules (map line xs))) (says_again (line x) (All-head SaysRecord x xs all))
      ∙ ap (λ l. Record (record_of x) ∷ l) (forms_of-all xs (All-tail SaysRecord x xs all))

  -- how long they are
  length-all : (xs : List X) → All SaysRecord xs → length (flat_map (λ x. ended (line x)) xs) ≤ 101 * length xs
  length-all [] all = omega arith
  length-all (x ∷ xs) all =
      let rest = length-all xs (All-tail SaysRecord x xs all) in
      let one = (All-head SaysRecord x xs all).short in
      omega (arith, length-append (ended (line x)) (flat_map (λ y. ended (line y)) xs), length-append (line x) (10 ∷ []))

  -- a problem line, and then a line for each item, are a file
  pub is_file : (limits : LineLimits) (first : List ℕ) (problem : P) (xs : List X) → 100 ≤ limits.line → 2 ^ 29 ≤ limits.total → SaysForm rules first (Problem problem)
      → All SaysRecord xs → length xs ≤ 4000000 → rules.is_size problem ≡ true → length xs ≡ rules.count problem
      → All (λ x. IsWithinRange rules problem (record_of x)) xs
      → IsFile rules limits (ended first ++ flat_map (λ x. ended (line x)) xs) problem (map record_of xs)
  is_file limits first problem xs line_fits file_fits says all few right_size count ranges =
      let bytes = ended first ++ flat_map (λ x. ended (line x)) xs in
      let lines : lines_of bytes ≡ first ∷ map line xs =
      ap lines_of (append_assoc first (10 ∷ []) (flat_map (λ x. ended (line x)) xs))
      ∙ lines_of-line first (flat_map (λ x. ended (line x)) xs) says.text ∙ ap (λ l. first ∷ l) (lines_of-all xs all) in
      let forms : forms_of rules (lines_of bytes) ≡ Problem problem ∷ map Record (map record_of xs) =
      ap (forms_of rules) lines ∙ ap (λ o. cons_option o (forms_of rules (map line xs))) (says_again first says)
      ∙ ap (λ l. Problem problem ∷ l) (forms_of-all xs all) in
      let size : length bytes ≤ 2 ^ 29 =
      omega (arith, length-all xs all, says.short, length-append (ended first) (flat_map (λ x. ended (line x)) xs), length-append first (10 ∷ [])) in
      record {
        short_lines = subst (All (λ l. length l ≤ limits.line)) (sym lines)
            (All-cons (λ l. length l ≤ limits.line) first (map line xs) (omega (arith, says.short, line_fits))
            (All-map (λ l. length l ≤ limits.line) line xs
            (All-weaker SaysRecord (λ x. length (line x) ≤ limits.line) (λ x one. omega (arith, one.short, line_fits)) xs all)));
        short_file = omega (arith, size, file_fits);
        lines = forms;
        right_size = right_size;
        counted = length-map xs record_of ∙ count;
        in_range = All-map (IsWithinRange rules problem) record_of xs ranges;
      }
