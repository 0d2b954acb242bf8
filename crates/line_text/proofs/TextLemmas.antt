-- From line to line of a text.
use Rattle.std.proofs.Common.{◌≡◌, ℕ, ◌+◌, ◌-◌, ◌<◌, ◌≤◌, min, Bool, true, false, List, [], ◌∷◌, ◌++◌, Option, Some, None, IfSome, IsSomeAnd, Result, Ok, Err, length, refl, sym, ap, subst, ◌∙◌, arith, append_assoc, length-drop}
use Rattle.std.specs.Prelude.{IfNone, ⊤}
use Rattle.std.specs.Io.KnownBytes.{prepend_known}
use Rattle.std.proofs.lemmas.Bool.Decides.{nat_tests}
use Rattle.std.proofs.lemmas.List.{length_push, map-append}
use Rattle.std.proofs.lemmas.List.Elements.{All-nil, All-push}
use Rattle.std.proofs.lemmas.List.Sums.{sum_by_push}
use Rattle.std.proofs.lemmas.Option.{MatchOption-at_none}
use Rattle.route_io.specs.Sources.{SourceState, ReadsFrom}
use Rattle.route_io.proofs.ReadsLemmas.{ReadsFrom-then}
use Rattle.line_text.specs.declared.limits.LineFault.{LineFault}
use Rattle.line_text.specs.declared.limits.LineFault.TheVariants as fault
use Rattle.line_text.specs.declared.limits.LineLimits.{LineLimits}
use Rattle.line_text.specs.Lines.{first_lf, raw_line, after_line, line_size, lines_of, without_cr}
use Rattle.line_text.specs.Marks.{line_fault, first_fault, line_answer, answer_of}
use Rattle.line_text.specs.Reading.{Lines, Advances, InLimits, LosesNone, Tells, begun, rest_of}
use Rattle.line_text.specs.Texts.{Follows, Front, HasCome, Leaves, NextOf, TakesAtMost, fault_behind, passed_by, size_in}
use Rattle.line_text.proofs.LineLemmas.{first_lf-le, length-raw_line, lines_of-first}

-- what is told of what a source told before, and of what it tells now
pub IfSome_through : (known left : Option (List ℕ)) {P Q : List ℕ → Type 0} (S : List ℕ → List ℕ → Type 0) → IfSome known (λ rest. IsSomeAnd left (S rest))
    → IfSome left P → ((rest more : List ℕ) → S rest more → P more → Q rest) → IfSome known Q
IfSome_through None left S skips known each = tt
IfSome_through (Some rest) None S skips known each = absurd skips
IfSome_through (Some rest) (Some more) S skips known each = each rest more skips known

-- what a call did to a reader of lines that kept no fault
pub advanced : {old new : Lines} {before after : SourceState} {result : Result Bool LineFault} → old.fault ≡ None
    → IfNone old.fault (Advances old new before after result) → Advances old new before after result
advanced none advances = MatchOption-at_none _ _ none advances

-- ---- the first line of what is left

-- its size is that of the first line of the rest
pub size_in-rest : (passed : ℕ) (rest : List ℕ) → size_in (passed + length rest) passed (raw_line rest) ≡ line_size rest
size_in-rest passed rest =
    let e : passed + length rest - passed ≡ length rest = omega arith in
    ap (min (length (raw_line rest) + 1)) e

-- the bytes of the first line and those behind it are all
pub length-rest : (rest : List ℕ) → length rest ≡ line_size rest + length (after_line rest)
length-rest rest = omega (arith, length-raw_line rest, first_lf-le rest, length-drop (first_lf rest + 1) rest)

none_broken : (fault : Option LineFault) → line_answer fault ≡ Ok true → fault ≡ None
none_broken None e = refl
none_broken (Some fault) e = absurd cc

-- a line that is taken breaks no limit
pub unbroken : (limits : LineLimits) (passed : ℕ) (rest : List ℕ) → answer_of limits passed rest ≡ Ok true → first_fault limits passed rest ≡ None
unbroken limits passed [] e = absurd cc
unbroken limits passed (byte ∷ rest) e = none_broken (first_fault limits passed (byte ∷ rest)) e

never_ends : (fault : Option LineFault) → line_answer fault ≡ Ok false → ⊥
never_ends None e = absurd cc
never_ends (Some fault) e = absurd cc

-- the text ends where nothing is left
pub none_left : (limits : LineLimits) (passed : ℕ) (rest : List ℕ) → answer_of limits passed rest ≡ Ok false → rest ≡ []
none_left limits passed [] e = refl
none_left limits passed (byte ∷ rest) e = absurd (never_ends (first_fault limits passed (byte ∷ rest)) e)

broken_by : (fault : Option LineFault) (by : LineFault) → line_answer fault ≡ Err by → fault ≡ Some by
broken_by None by e = absurd cc
broken_by (Some fault) by e = cc

-- a line breaks a limit where it is refused
pub broken : (limits : LineLimits) (passed : ℕ) (rest : List ℕ) (by : LineFault) → answer_of limits passed rest ≡ Err by
    → (0 < length rest) × (first_fault limits passed rest ≡ Some by)
broken limits passed [] by e = absurd cc
broken limits passed (byte ∷ rest) by e = (omega arith, broken_by (first_fault limits passed (byte ∷ rest)) by e)

-- a line that breaks no limit is short, and ends within the total
pub kept_limits : (limits : LineLimits) (passed raw size : ℕ) → line_fault limits passed raw size ≡ None
    → (raw ≤ limits.line) × (passed + size ≤ limits.total)
kept_limits limits passed raw size e = grind (arith, nat_tests)

-- and such a line breaks none
pub keeps_limits : (limits : LineLimits) (passed raw size : ℕ) → raw ≤ limits.line → passed + size ≤ limits.total
    → line_fault limits passed raw size ≡ None
keeps_limits limits passed raw size short within = grind (arith, nat_tests)

-- ---- the lines so far

-- how many bytes one line more takes
pub passed_by-push : (total : ℕ) (front : List (List ℕ)) (line : List ℕ)
    → passed_by total (front ++ line ∷ []) ≡ passed_by total front + size_in total (passed_by total front) line
passed_by-push total front line = omega (arith, sum_by_push (λ l. length l + 1) front line)

module _ (limits : LineLimits) (bytes : List ℕ) (texts : List (List ℕ)) (passed : ℕ) (rest : List ℕ) (leaves : Leaves limits bytes texts passed rest) where
  -- the fault of the first line of the rest is that of the line behind those that were taken
  next_fault : fault_behind limits (length bytes) leaves.lines.front (raw_line rest) ≡ first_fault limits passed rest
  next_fault =
      ap (λ p. line_fault limits p (length (raw_line rest)) (size_in (length bytes) p (raw_line rest))) (sym leaves.passed)
      ∙ ap (λ total. line_fault limits passed (length (raw_line rest)) (size_in total passed (raw_line rest))) (sym leaves.sizes)
      ∙ ap (line_fault limits passed (length (raw_line rest))) (size_in-rest passed rest)

  -- the first line of the rest is the next one
  next_is : (broken : Option LineFault) → lines_of rest ≡ raw_line rest ∷ lines_of (after_line rest) → first_fault limits passed rest ≡ broken
      → Follows limits bytes texts (raw_line rest) broken
  next_is broken first is = record {
    back = lines_of (after_line rest);
    lines = record {
      front = leaves.lines.front;
      parts = leaves.lines.parts ∙ ap (λ back. leaves.lines.front ++ back) first;
      texts = leaves.lines.texts;
      short = leaves.lines.short;
      within = leaves.lines.within;
    };
    fault = next_fault ∙ is;
  }

  -- the next line is taken
  leaves_more : (text : List ℕ) (after : ℕ) → lines_of rest ≡ raw_line rest ∷ lines_of (after_line rest) → first_fault limits passed rest ≡ None
      → text ≡ without_cr (raw_line rest) → after ≡ passed + line_size rest
      → Leaves limits bytes (texts ++ text ∷ []) after (after_line rest)
  leaves_more text after first none is size =
      let kept = kept_limits limits passed (length (raw_line rest)) (line_size rest) none in
      let front = leaves.lines.front in
      let taken : after ≡ passed_by (length bytes) (front ++ raw_line rest ∷ []) =
      size ∙ ap (λ n. passed + n) (sym (size_in-rest passed rest) ∙ ap (λ total. size_in total passed (raw_line rest)) leaves.sizes)
      ∙ ap (λ p. p + size_in (length bytes) p (raw_line rest)) leaves.passed ∙ sym (passed_by-push (length bytes) front (raw_line rest)) in
      record {
        lines = record {
          front = front ++ raw_line rest ∷ [];
          parts = leaves.lines.parts ∙ ap (λ back. front ++ back) first ∙ sym (append_assoc front (raw_line rest ∷ []) (lines_of (after_line rest)));
          texts = ap (λ t. texts ++ t ∷ []) is ∙ ap (λ ts. ts ++ without_cr (raw_line rest) ∷ []) leaves.lines.texts
              ∙ sym (map-append without_cr front (raw_line rest ∷ []));
          short = All-push (λ l. length l ≤ limits.line) front (raw_line rest) leaves.lines.short kept.0;
          within = omega (arith, sym taken, size, kept.1);
        };
        passed = taken;
        sizes = omega (arith, size, length-rest rest, leaves.sizes);
      }

  -- no line is left
  none_more : rest ≡ [] → Front limits bytes texts []
  none_more none = subst (λ r. Front limits bytes texts (lines_of r)) none leaves.lines

-- what an answer says of the rest by these limits, but of a read that failed
abbrev AtLimits : LineLimits → ℕ → List ℕ → Result Bool LineFault → Type 0
AtLimits limits passed rest (Err fault.Read) = ⊤
AtLimits limits passed rest answer = answer_of limits passed rest ≡ answer

module _ (limits : LineLimits) (start : SourceState) where
  -- nothing was taken yet
  pub has_come-none : HasCome limits start start (begun limits) []
  has_come-none = record {
    limited = refl;
    goes_on = refl;
    number = refl;
    in_limits = record { number = omega arith; passed = omega arith; text = omega arith; one_past = omega arith; in_the_buffer = omega arith };
    source = record { cause = refl; files = refl; selected = refl };
    loses_none = none_lost start.left;
    text = all_left start.left;
  } where
    none_lost : (left : Option (List ℕ)) → IfSome left (λ bytes. IsSomeAnd left (λ more. 0 + 0 + length more ≡ 0 + 0 + length bytes))
    none_lost None = tt
    none_lost (Some bytes) = refl

    all_left : (left : Option (List ℕ)) → IfSome left (λ bytes. IsSomeAnd (prepend_known [] left) (Leaves limits bytes [] 0))
    all_left None = tt
    all_left (Some bytes) = record {
      lines = record { front = []; parts = refl; texts = refl; short = All-nil _; within = omega arith };
      passed = omega arith;
      sizes = omega arith;
    }

  module _ (before after : SourceState) (old new : Lines) (texts : List (List ℕ)) (come : HasCome limits start before old texts) where
    -- what the next line's answer says of the text
    pub next_of : (result : Result Bool LineFault) → IfNone old.fault (Advances old new before after result)
        → IfSome start.left (λ bytes. NextOf limits bytes texts new.text result)
    next_of result advances =
        IfSome_through start.left (rest_of old before) _ come.text (advanced come.goes_on advances).lines
        (λ bytes rest leaves tells. by result bytes rest leaves (subst (λ l. AtLimits l old.passed rest result) come.limited (tells_answer result rest tells)) tells) where
          tells_answer : (result : Result Bool LineFault) (rest : List ℕ) → Tells old new rest (rest_of new after) result → AtLimits old.limits old.passed rest result
          tells_answer (Ok true) rest tells = tells.answer
          tells_answer (Ok false) rest tells = tells.answer
          tells_answer (Err fault.Read) rest tells = tt
          tells_answer (Err fault.TooLong) rest tells = tells.answer
          tells_answer (Err fault.Total) rest tells = tells.answer

          breaks : (by : LineFault) (bytes rest : List ℕ) → Leaves limits bytes texts old.passed rest → answer_of limits old.passed rest ≡ Err by
              → (line : List ℕ) × Follows limits bytes texts line (Some by)
          breaks by bytes rest leaves answer =
              let why = broken limits old.passed rest by answer in
              (raw_line rest, next_is limits bytes texts old.passed rest leaves (Some by) (lines_of-first rest why.0) why.1)

          by : (result : Result Bool LineFault) (bytes rest : List ℕ) → Leaves limits bytes texts old.passed rest → AtLimits limits old.passed rest result
              → Tells old new rest (rest_of new after) result → NextOf limits bytes texts new.text result
          by (Ok true) bytes rest leaves answer tells =
              (raw_line rest, tells.text, next_is limits bytes texts old.passed rest leaves None tells.lines (unbroken limits old.passed rest answer))
          by (Ok false) bytes rest leaves answer tells =
              none_more limits bytes texts old.passed rest leaves (none_left limits old.passed rest answer)
          by (Err fault.Read) bytes rest leaves answer tells = tt
          by (Err fault.TooLong) bytes rest leaves answer tells = breaks fault.TooLong bytes rest leaves answer
          by (Err fault.Total) bytes rest leaves answer tells = breaks fault.Total bytes rest leaves answer

    -- no byte is lost from the start on
    loses_none-then : LosesNone old new before after → LosesNone (begun limits) new start after
    loses_none-then next =
        IfSome_through start.left before.left _ come.loses_none next
        (λ xs ys e more. subst (λ size. IsSomeAnd after.left (λ zs. new.passed + length new.held + length zs ≡ size)) e more)

    -- one more line was taken
    pub has_come-more : IfNone old.fault (Advances old new before after (Ok true)) → InLimits new → new.fault ≡ None → ReadsFrom before after false
        → HasCome limits start after new (texts ++ new.text ∷ [])
    has_come-more advances in_limits goes_on source =
        let step = advanced come.goes_on advances in
        record {
          limited = step.limits ∙ come.limited;
          goes_on = goes_on;
          number = step.counts.number ∙ ap (λ n. n + 1) come.number ∙ sym (length_push texts new.text);
          in_limits = in_limits;
          source = ReadsFrom-then _ _ _ _ come.source source;
          loses_none = loses_none-then step.loses_none;
          text = IfSome_through start.left (rest_of old before) _ come.text step.lines
              (λ bytes rest leaves line. subst (λ a. IsSomeAnd a (Leaves limits bytes (texts ++ new.text ∷ []) new.passed)) (sym line.left)
              (leaves_more limits bytes texts old.passed rest leaves new.text new.passed line.lines
              (unbroken limits old.passed rest (subst (λ l. answer_of l old.passed rest ≡ Ok true) come.limited line.answer)) line.text line.passed));
        }

    -- from the start on at most one byte past the total is taken
    pub takes_at_most : (result : Result Bool LineFault) → IfNone old.fault (Advances old new before after result) → InLimits new
        → TakesAtMost (limits.total + 1) start after
    takes_at_most result advances in_limits =
        let step = advanced come.goes_on advances in
        by_sizes (omega (arith, in_limits.one_past, ap (λ l. l.total) (step.limits ∙ come.limited))) start.left after.left (loses_none-then step.loses_none) where
          by_sizes : new.passed + length new.held ≤ limits.total + 1 → (left more : Option (List ℕ))
              → IfSome left (λ bytes. IsSomeAnd more (λ rest. new.passed + length new.held + length rest ≡ 0 + 0 + length bytes))
              → IfSome left (λ bytes. IsSomeAnd more (λ rest. length bytes ≤ length rest + (limits.total + 1)))
          by_sizes within None more loses_none = tt
          by_sizes within (Some bytes) None loses_none = absurd loses_none
          by_sizes within (Some bytes) (Some rest) loses_none = omega (arith, loses_none)
