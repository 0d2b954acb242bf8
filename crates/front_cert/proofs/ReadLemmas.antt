-- What is read of the rest of a text, from its first line on.
use Rattle.std.proofs.Common.{◌≡◌, ℕ, ◌+◌, ◌<◌, ◌≤◌, cond, List, ◌∷◌, Option, Some, None, is_none, true, false, Bool, Result, Ok, Err, length, refl, sym, ap, subst, ◌∙◌, arith}
use Rattle.std.specs.Prelude.{IfSome, IsSomeAnd, if◌then◌else◌, nat_lt}
use Rattle.std.proofs.lemmas.Bool.{lt-ltb}
use Rattle.std.proofs.lemmas.Bool.Decides.{nat_tests}
use Rattle.line_text.specs.declared.limits.LineFault.{LineFault}
use Rattle.line_text.specs.declared.limits.LineFault.TheVariants as lines
use Rattle.line_text.specs.Fields.{fields_of}
use Rattle.line_text.specs.Lines.{raw_line, after_line, line_size, without_cr, lines_of}
use Rattle.line_text.specs.Marks.{line_fault, first_fault, answer_of}
use Rattle.line_text.specs.Reading.{Lines, Counts, TakesLine, Tells}
use Rattle.line_text.proofs.LineLemmas.{lines_of-first}
use Rattle.line_text.proofs.TextLemmas.{IfSome_through, broken, length-rest, none_left, size_in-rest, unbroken}
use Rattle.road_network.specs.Network.{Network}
use Rattle.cert_rules.specs.Certificates.{Certificate}
use Rattle.front_cert.specs.Reads.{HasLine, NextTells, ReadsText, at, from_line, known_as}
use Rattle.front_cert.specs.Listing.{Listing}
use Rattle.front_cert.specs.declared.fault.CertFault.TheVariants.{Line}
use Rattle.front_cert.specs.Text.{Draft, State, cert_limits, or_fault, read_lines, read_rest, read_text, size_in, whole, with_line}

-- a line has this fault by the limits of a certificate's text
by_limits : (old : Lines) (rest : List ℕ) (fault : Option LineFault) → old.limits ≡ cert_limits → first_fault old.limits old.passed rest ≡ fault
    → line_fault cert_limits old.passed (length (raw_line rest)) (line_size rest) ≡ fault
by_limits old rest fault limits e = subst (λ l. first_fault l old.passed rest ≡ fault) limits e

module _ (net : Network) where
  -- what a line gives whose number, place, limits and fields are known
  unfoldable pub given : ℕ → ℕ → ℕ → Option LineFault → Option Draft → List (List ℕ) → List (List ℕ) → Result Certificate ℕ
  given total number passed fault draft fields lines =
      or_fault number (if is_none fault then with_line net draft fields else None)
      (λ next. read_lines net total (record { draft = Some next; number = number; passed = passed }) lines)

  read_lines-cons : (total : ℕ) (state : State) (line : List ℕ) (lines : List (List ℕ)) → read_lines net total state (line ∷ lines)
      ≡ given total (state.number + 1) (state.passed + size_in total state.passed line)
      (line_fault cert_limits state.passed (length line) (size_in total state.passed line)) state.draft (fields_of (without_cr line)) lines
  unfolding given
  read_lines-cons total state line lines = refl

  given_same : (total total' number number' passed passed' : ℕ) (fault fault' : Option LineFault) (draft : Option Draft) (fields fields' : List (List ℕ))
      (lines : List (List ℕ)) → total ≡ total' → number ≡ number' → passed ≡ passed' → fault ≡ fault' → fields ≡ fields'
      → given total number passed fault draft fields lines ≡ given total' number' passed' fault' draft fields' lines
  given_same total total' number number' passed passed' fault fault' draft fields fields' lines a b c d e = cc

  from_given : (new : Lines) (draft : Option Draft) (more : List ℕ)
      → given (new.passed + length more) new.number new.passed None draft (fields_of new.text) (lines_of more) ≡ from_line net new draft more
  unfolding given
  from_given new draft more = refl

  given_broken : (total number passed : ℕ) (fault : LineFault) (draft : Option Draft) (fields lines : List (List ℕ))
      → given total number passed (Some fault) draft fields lines ≡ Err number
  unfolding given
  given_broken total number passed fault draft fields lines = refl

  module _ (old new : Lines) (rest : List ℕ) (after : Option (List ℕ)) (limits : old.limits ≡ cert_limits) where
    -- the first line of the rest is taken
    has_line : new.number ≡ old.number + 1 → TakesLine old new rest after → HasLine net old new rest after
    has_line number taken = record {
      more = after_line rest;
      left = taken.left;
      reads = λ draft.
          let size = size_in-rest old.passed rest in
          ap (read_lines net (old.passed + length rest) (at old draft)) taken.lines
          ∙ read_lines-cons (old.passed + length rest) (at old draft) (raw_line rest) (lines_of (after_line rest))
          ∙ given_same _ (new.passed + length (after_line rest)) _ new.number _ new.passed _ None draft _ (fields_of new.text) (lines_of (after_line rest))
          (omega (arith, taken.passed, length-rest rest)) (sym number)
          (ap (λ n. old.passed + n) size ∙ sym taken.passed)
          (ap (line_fault cert_limits old.passed (length (raw_line rest))) size ∙ by_limits old rest None limits (unbroken old.limits old.passed rest taken.answer))
          (ap fields_of (sym taken.text))
          ∙ from_given new draft (after_line rest);
    }

    -- it breaks a limit
    breaks : (fault : LineFault) → new.number ≡ old.number → answer_of old.limits old.passed rest ≡ Err fault
        → (draft : Option Draft) → read_rest net (at old draft) rest ≡ Err (new.number + 1)
    breaks fault number answer draft =
        let broken = broken old.limits old.passed rest fault answer in
        ap (read_lines net (old.passed + length rest) (at old draft)) (lines_of-first rest broken.0)
        ∙ read_lines-cons (old.passed + length rest) (at old draft) (raw_line rest) (lines_of (after_line rest))
        ∙ given_same _ (old.passed + length rest) _ (new.number + 1) _ _ _ (Some fault) draft _ _ (lines_of (after_line rest))
        refl (ap (λ n. n + 1) (sym number)) refl
        (ap (line_fault cert_limits old.passed (length (raw_line rest))) (size_in-rest old.passed rest) ∙ by_limits old rest (Some fault) limits broken.1) refl
        ∙ given_broken _ (new.number + 1) _ fault draft _ (lines_of (after_line rest))

    pub next_ok : (more : Bool) → Counts old new (Ok more) → Tells old new rest after (Ok more) → NextTells net old new rest after (Ok more)
    next_ok true counts tells = has_line counts.number tells
    next_ok false counts tells = λ draft.
        ap (read_rest net (at old draft)) (none_left old.limits old.passed rest tells.answer) ∙ ap (whole draft) (sym counts.0.number)

    pub next_err : (fault : LineFault) → Counts old new (Err fault) → Tells old new rest after (Err fault)
        → NextTells net old new rest after (Err (known_as fault (new.number + 1)))
    next_err lines.Read counts tells = tt
    next_err lines.TooLong counts tells = breaks lines.TooLong counts.number tells.answer
    next_err lines.Total counts tells = breaks lines.Total counts.number tells.answer

-- ---- the end of the text

-- no line is left
text_ends : (net : Network) (old new : Lines) (draft : Draft) (start rest after : Option (List ℕ))
    → IfSome start (λ bytes. IsSomeAnd rest (λ more. read_text net bytes ≡ read_rest net (at old (Some draft)) more))
    → IfSome rest (λ more. NextTells net old new more after (Ok false)) → IfSome start (λ bytes. read_text net bytes ≡ whole (Some draft) new.number)
text_ends net old new draft start rest after known tells =
    IfSome_through start rest (λ bytes more. read_text net bytes ≡ read_rest net (at old (Some draft)) more) known tells (λ bytes more e ends. e ∙ ends (Some draft))

not_below : (a b : ℕ) → b ≤ a → nat_lt a b ≡ false
not_below a b most = grind (arith, nat_tests)

whole_short : (draft : Draft) (number : ℕ) → length draft.cert.labels < draft.due → whole (Some draft) number ≡ Err (number + 1)
whole_short draft number short = ap (λ b. cond b (Err (number + 1)) (Ok draft.cert)) (lt-ltb (length draft.cert.labels) draft.due short)

whole_full : (draft : Draft) (number : ℕ) → draft.due ≤ length draft.cert.labels → whole (Some draft) number ≡ Ok draft.cert
whole_full draft number full = ap (λ b. cond b (Err (number + 1)) (Ok draft.cert)) (not_below (length draft.cert.labels) draft.due full)

module _ (net : Network) (old new : Lines) (draft : Draft) (start rest after : Option (List ℕ))
    (known : IfSome start (λ bytes. IsSomeAnd rest (λ more. read_text net bytes ≡ read_rest net (at old (Some draft)) more)))
    (tells : IfSome rest (λ more. NextTells net old new more after (Ok false))) where
  -- labels are missing
  pub reads_short : length draft.cert.labels < draft.due → IfSome start (λ bytes. ReadsText net bytes (Err (Line (new.number + 1))))
  reads_short short = by_start start (text_ends net old new draft start rest after known tells) where
    by_start : (start : Option (List ℕ)) → IfSome start (λ bytes. read_text net bytes ≡ whole (Some draft) new.number)
        → IfSome start (λ bytes. ReadsText net bytes (Err (Line (new.number + 1))))
    by_start None e = tt
    by_start (Some bytes) e = e ∙ whole_short draft new.number short

  -- all have come
  pub reads_full : (listing : Listing) → listing.cert ≡ draft.cert → draft.due ≤ length draft.cert.labels → IfSome start (λ bytes. ReadsText net bytes (Ok listing))
  reads_full listing same full = by_start start (text_ends net old new draft start rest after known tells) where
    by_start : (start : Option (List ℕ)) → IfSome start (λ bytes. read_text net bytes ≡ whole (Some draft) new.number)
        → IfSome start (λ bytes. ReadsText net bytes (Ok listing))
    by_start None e = tt
    by_start (Some bytes) e = e ∙ whole_full draft new.number full ∙ ap Ok (sym same)
