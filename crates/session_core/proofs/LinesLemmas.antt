-- The lines of a text that an LF ends.
use Rattle.std.proofs.Common.{◌≡◌, ℕ, suc, ◌+◌, ◌<◌, ◌≤◌, Bool, true, false, not, cond, List, [], ◌∷◌, ◌++◌, length, take, drop, filter, refl, sym, ap, ◌∙◌, arith, length-append, ⊎_elim}
use Rattle.std.proofs.lemmas.Bool.{cases_lt}
use Rattle.std.proofs.lemmas.List.{take-append-drop, length-take, length-drop, nil_from_length}
use Rattle.line_text.specs.Lines.{is_lf, first_lf, raw_line, after_line, lines_of}
use Rattle.line_text.proofs.LineLemmas.{first_lf-le, first_lf-grows, begins_alike, length-raw_line, lines_of-first}
use Rattle.session_core.specs.Lines.{ended_lines}

-- as a byte ends a line or not
no_lf-step : (ends : Bool) (byte : ℕ) (text : List ℕ) → cond (not ends) (1 + first_lf text) 0 ≡ length (byte ∷ text)
    → (first_lf text ≡ length text → length (filter is_lf text) ≡ 0)
    → length (cond ends (byte ∷ filter is_lf text) (filter is_lf text)) ≡ 0
no_lf-step true byte text none later = absurd (omega arith)
no_lf-step false byte text none later = later (omega arith)

no_lf : (text : List ℕ) → first_lf text ≡ length text → length (filter is_lf text) ≡ 0
no_lf [] none = refl
no_lf (byte ∷ text) none = no_lf-step (is_lf byte) byte text none (no_lf text)

-- bytes without an LF end no line
pub ended_lines-none : (text : List ℕ) → first_lf text ≡ length text → ended_lines text ≡ []
ended_lines-none text none = ap (λ n. take n (lines_of text)) (no_lf text none)

count-step : (ends : Bool) (byte : ℕ) (text : List ℕ) → cond (not ends) (1 + first_lf text) 0 < length (byte ∷ text)
    → (first_lf text < length text → length (filter is_lf text) ≡ 1 + length (filter is_lf (after_line text)))
    → length (cond ends (byte ∷ filter is_lf text) (filter is_lf text))
    ≡ 1 + length (filter is_lf (drop (cond (not ends) (1 + first_lf text) 0 + 1) (byte ∷ text)))
count-step true byte text some later = omega arith
count-step false byte text some later =
    let behind : 1 + first_lf text + 1 ≡ suc (first_lf text + 1) = omega arith in
    rw behind (later (omega arith))

-- one LF more stands in a text than behind its first line
count-first : (text : List ℕ) → first_lf text < length text → length (filter is_lf text) ≡ 1 + length (filter is_lf (after_line text))
count-first [] some = absurd (omega arith)
count-first (byte ∷ text) some = count-step (is_lf byte) byte text some (count-first text)

-- of the lines that an LF ends the first one, and those behind it
pub ended_lines-first : (text : List ℕ) → first_lf text < length text → ended_lines text ≡ raw_line text ∷ ended_lines (after_line text)
ended_lines-first text some =
    let count : length (filter is_lf text) ≡ suc (length (filter is_lf (after_line text))) = omega (arith, count-first text some) in
    rw (count, lines_of-first text (omega arith)) refl

-- The bytes are one line with its LF, whatever stands behind them.
pub record IsOneLine (front raw : List ℕ) : Type 0 where
  pub size : length front ≡ length raw + 1
  pub all : (text : List ℕ) → lines_of (front ++ text) ≡ raw ∷ lines_of text
  pub ended : (text : List ℕ) → ended_lines (front ++ text) ≡ raw ∷ ended_lines text

module _ (rest : List ℕ) (whole : first_lf rest < length rest) where
  abbrev front : List ℕ
  front = take (first_lf rest + 1) rest

  parts : front ++ after_line rest ≡ rest
  parts = take-append-drop (first_lf rest + 1) rest

  front_size : length front ≡ first_lf rest + 1
  front_size = omega (arith, length-take (first_lf rest + 1) rest)

  front_whole : first_lf front < length front
  front_whole = omega (arith, front_size, first_lf-grows front (after_line rest), ap first_lf parts)

  front_raw : raw_line front ≡ raw_line rest
  front_raw = sym (begins_alike front (after_line rest) front_whole).raw ∙ ap raw_line parts

  front_lf : first_lf front ≡ first_lf rest
  front_lf = sym (length-raw_line front) ∙ ap length front_raw ∙ length-raw_line rest

  front_behind : after_line front ≡ []
  front_behind = nil_from_length (after_line front) (omega (arith, length-drop (first_lf front + 1) front, front_lf, front_size))

  module _ (text : List ℕ) where
    raw_front : raw_line (front ++ text) ≡ raw_line rest
    raw_front = (begins_alike front text front_whole).raw ∙ front_raw

    after_front : after_line (front ++ text) ≡ text
    after_front = (begins_alike front text front_whole).behind ∙ ap (λ xs. xs ++ text) front_behind

    whole_front : first_lf (front ++ text) < length (front ++ text)
    whole_front = omega (arith, front_whole, length-append front text, ap length raw_front, length-raw_line (front ++ text), length-raw_line rest, front_size)

  -- the first line with its LF
  pub first_is_one : IsOneLine front (raw_line rest)
  first_is_one = record {
    size = omega (arith, front_size, length-raw_line rest);
    all = λ text. lines_of-first (front ++ text) (omega (arith, whole_front text)) ∙ rw (raw_front text, after_front text) refl;
    ended = λ text. ended_lines-first (front ++ text) (whole_front text) ∙ rw (raw_front text, after_front text) refl;
  }

-- no LF stands in the part of a text before its first one
pub first_lf-take : (text : List ℕ) (size : ℕ) → size ≤ first_lf text → first_lf (take size text) ≡ length (take size text)
first_lf-take text size before =
    let front = take size text in
    let long = length-take size text in
    let within = first_lf-le text in
    ⊎_elim (λ whole.
    let same = ap length (begins_alike front (drop size text) whole).raw in
    let parted = ap first_lf (take-append-drop size text) in
    absurd (omega (arith, length-raw_line front, length-raw_line (front ++ drop size text))))
    (λ part. omega (arith, first_lf-le front))
    (cases_lt (first_lf front) (length front))
