-- The first line of a text, and its fault.
use Rattle.std.proofs.Common.{◌≡◌, ℕ, suc, ◌+◌, ◌-◌, ◌<◌, ◌≤◌, Bool, true, false, not, cond, List, [], ◌∷◌, ◌++◌, length, filter, take, drop, get_or, refl, sym, ap, ◌∙◌, arith, one-add, length-append, eqb, Some, ⊎_elim}
use Rattle.std.specs.List.{onto_first}
use Rattle.std.proofs.lemmas.Bool.Decides.{nat_tests}
use Rattle.std.proofs.lemmas.List.{append-nil, take-append-drop, length-take, take-append-le, drop-append-le}
use Rattle.std.proofs.lemmas.List.Folds.{prefix_len-append}
use Rattle.std.proofs.lemmas.List.Sums.{prefix_len-le-length}
use Rattle.std.proofs.lemmas.Bool.{cases_lt}
use Rattle.line_text.specs.Lines.{is_lf, first_lf, raw_line, after_line, line_size, lines_ended, without_cr, lines_of}
use Rattle.line_text.specs.declared.limits.LineFault.{LineFault}
use Rattle.line_text.specs.declared.limits.LineFault.TheVariants.{Read}
use Rattle.line_text.specs.declared.limits.LineLimits.{LineLimits}
use Rattle.line_text.specs.Marks.{line_fault, first_fault, line_answer, answer_of}

pub first_lf-le : (text : List ℕ) → first_lf text ≤ length text
first_lf-le text = prefix_len-le-length (λ byte. not (is_lf byte)) text

-- the place of an LF is within the text
pub ruleset lf_places = first_lf-le

-- the first line is as long as the place of its LF says
pub length-raw_line : (text : List ℕ) → length (raw_line text) ≡ first_lf text
length-raw_line text = length-take (first_lf text) text ∙ omega (arith, first_lf-le text)

-- The first line of these bytes is the first line with more behind them.
pub record BeginsAlike (held more : List ℕ) : Type 0 where
  pub raw : raw_line (held ++ more) ≡ raw_line held
  pub size : line_size (held ++ more) ≡ line_size held
  pub behind : after_line (held ++ more) ≡ after_line held ++ more

pub begins_alike-nil : (held : List ℕ) → BeginsAlike held []
begins_alike-nil held = record {
  raw = ap raw_line (append-nil held);
  size = ap line_size (append-nil held);
  behind = ap after_line (append-nil held) ∙ sym (append-nil (after_line held));
}

module _ (held more : List ℕ) where
  first_lf-append : first_lf (held ++ more) ≡ cond (eqb (first_lf held) (length held)) (length held + first_lf more) (first_lf held)
  first_lf-append = prefix_len-append (λ byte. not (is_lf byte)) held more

  -- bytes without an LF in front of a text belong to its first line
  pub first_lf-front : first_lf held ≡ length held → first_lf (held ++ more) ≡ length held + first_lf more
  first_lf-front part = rw first_lf-append (grind (arith, nat_tests))

  -- more bytes leave the first LF where it was, or further on
  pub first_lf-grows : first_lf held ≤ first_lf (held ++ more)
  first_lf-grows = let within = first_lf-le held in rw first_lf-append (grind (arith, nat_tests))

  -- bytes without an LF don't hold the first one
  pub first_lf-part : first_lf held ≡ length held → length held ≤ first_lf (held ++ more)
  first_lf-part part = rw first_lf-append (grind (arith, nat_tests))

  -- an LF that is held stays the first one
  pub begins_alike : first_lf held < length held → BeginsAlike held more
  begins_alike whole =
      let same : first_lf (held ++ more) ≡ first_lf held = first_lf-append ∙ grind (arith, nat_tests) in
      let raw : raw_line (held ++ more) ≡ raw_line held =
      ap (λ n. take n (held ++ more)) same ∙ take-append-le (first_lf held) held more (first_lf-le held) in
      record {
        raw = raw;
        size = omega (arith, ap length raw, length-append held more, length-raw_line held);
        behind = ap (λ n. drop (n + 1) (held ++ more)) same ∙ drop-append-le (first_lf held + 1) held more (omega arith);
      }

none_ended-step : (ends : Bool) (byte : ℕ) (text : List ℕ) → cond (not ends) (1 + first_lf text) 0 ≡ length (byte ∷ text)
    → (first_lf text ≡ length text → lines_ended text ≡ 0) → length (cond ends (byte ∷ filter is_lf text) (filter is_lf text)) ≡ 0
none_ended-step true byte text none later = absurd (omega arith)
none_ended-step false byte text none later = later (omega arith)

-- no line ends in bytes without an LF
pub none_ended : (text : List ℕ) → first_lf text ≡ length text → lines_ended text ≡ 0
none_ended [] none = refl
none_ended (byte ∷ text) none = none_ended-step (is_lf byte) byte text none (none_ended text)

one_ended-step : (ends : Bool) (byte : ℕ) (text : List ℕ) → is_lf byte ≡ ends → cond (not ends) (1 + first_lf text) 0 < length (byte ∷ text)
    → (first_lf text < length text → lines_ended (take (first_lf text + 1) text) ≡ 1)
    → lines_ended (take (cond (not ends) (1 + first_lf text) 0 + 1) (byte ∷ text)) ≡ 1
one_ended-step true byte text e some later = rw e refl
one_ended-step false byte text e some later =
    let behind : 1 + first_lf text + 1 ≡ suc (first_lf text + 1) = omega arith in
    rw (behind, e) (later (omega arith))

-- one line ends up to the first LF
pub one_ended : (text : List ℕ) → first_lf text < length text → lines_ended (take (first_lf text + 1) text) ≡ 1
one_ended [] some = absurd (omega arith)
one_ended (byte ∷ text) some = one_ended-step (is_lf byte) byte text refl some (one_ended text)

-- where no LF stands before a place, the first one is the first from there on
pub first_lf-behind : (bytes : List ℕ) (searched : ℕ) → searched ≤ first_lf bytes → first_lf bytes ≡ searched + first_lf (drop searched bytes)
first_lf-behind bytes searched none =
    let front = take searched bytes in
    let size : length front ≡ searched = omega (arith, length-take searched bytes, first_lf-le bytes) in
    let within = first_lf-le front in
    let parted = ap first_lf (sym (take-append-drop searched bytes)) ∙ first_lf-append front (drop searched bytes) in
    grind (arith, nat_tests)

-- what the lines of a text with one byte more in front are, by whether that ends a line
lines_of-step : (byte : ℕ) (text : List ℕ) → onto_first byte (lines_of text) ≡ (byte ∷ raw_line text) ∷ lines_of (after_line text) → (ends : Bool)
    → cond ends ([] ∷ lines_of text) (onto_first byte (lines_of text))
    ≡ take (cond (not ends) (1 + first_lf text) 0) (byte ∷ text) ∷ lines_of (drop (cond (not ends) (1 + first_lf text) 0 + 1) (byte ∷ text))
lines_of-step byte text later true = refl
lines_of-step byte text later false =
    let behind : 1 + first_lf text + 1 ≡ suc (first_lf text + 1) = omega arith in
    rw (behind, one-add (first_lf text)) later

-- the lines of a text are its first line and those behind it
pub lines_of-first : (text : List ℕ) → 0 < length text → lines_of text ≡ raw_line text ∷ lines_of (after_line text)
lines_of-first [] some = absurd (omega arith)
lines_of-first (byte ∷ []) some = lines_of-step byte [] refl (is_lf byte)
lines_of-first (byte ∷ next ∷ text) some =
    lines_of-step byte (next ∷ text) (ap (onto_first byte) (lines_of-first (next ∷ text) (omega arith))) (is_lf byte)

-- a line's text is short of the line by one CR at most
pub length-without_cr : (line : List ℕ) → (length (without_cr line) ≤ length line) × (length line ≤ length (without_cr line) + 1)
length-without_cr line = by_last (eqb (get_or line (length line - 1) 0) 13) where
  by_last : (cr : Bool) → let text = cond cr (take (length line - 1) line) line in (length text ≤ length line) × (length line ≤ length text + 1)
  by_last true = let short = length-take (length line - 1) line in (omega (arith, short), omega (arith, short))
  by_last false = (omega arith, omega arith)

-- ---- the limits of a line of which more and more is known

pub answer_of-some : (limits : LineLimits) (passed : ℕ) (text : List ℕ) → 0 < length text
    → answer_of limits passed text ≡ line_answer (first_fault limits passed text)
answer_of-some limits passed [] some = absurd (omega arith)
answer_of-some limits passed (byte ∷ text) some = refl

-- the marks make no other fault
pub never_read : (limits : LineLimits) (passed raw size : ℕ) → line_fault limits passed raw size ≡ Some Read → ⊥
never_read limits passed raw size e = grind (arith, nat_tests)

-- a fault that stands while a line without an LF is known stays when all of it is known
fault_stays : (limits : LineLimits) (passed known all raw size : ℕ) (fault : LineFault) → all ≡ known → known ≤ raw → raw ≤ size
    → line_fault limits passed known all ≡ Some fault → line_fault limits passed raw size ≡ Some fault
fault_stays limits passed known all raw size fault part more within e = grind (arith, nat_tests)

module _ (limits : LineLimits) (passed : ℕ) (held more : List ℕ) where
  pub first_fault-alike : BeginsAlike held more → first_fault limits passed (held ++ more) ≡ first_fault limits passed held
  first_fault-alike alike =
      ap (λ raw. line_fault limits passed (length raw) (line_size (held ++ more))) alike.raw
      ∙ ap (line_fault limits passed (length (raw_line held))) alike.size

  pub first_fault-broken : (fault : LineFault) → first_fault limits passed held ≡ Some fault → first_fault limits passed (held ++ more) ≡ Some fault
  first_fault-broken fault e =
      ⊎_elim (λ whole. first_fault-alike (begins_alike held more whole) ∙ e)
      (λ part.
      let raw = length-raw_line held in
      let line = length-raw_line (held ++ more) in
      let within = first_lf-le held in
      let later = first_lf-part held more (omega arith) in
      fault_stays limits passed (length (raw_line held)) (line_size held) (length (raw_line (held ++ more))) (line_size (held ++ more)) fault
      (omega arith) (omega arith) (omega (arith, first_lf-le (held ++ more))) e)
      (cases_lt (first_lf held) (length held))
