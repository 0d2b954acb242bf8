-- The next line, step by step.
use Rattle.std.proofs.Common.{◌≡◌, ℕ, ◌+◌, ◌<◌, ◌≤◌, Bool, true, false, cond, List, [], ◌++◌, Option, Some, None, IfSome, IsSomeAnd, IsTrue, Result, Ok, Err, length, refl, sym, ap, subst, ◌∙◌, arith, append_assoc, length-append}
use Rattle.std.proofs.lemmas.List.{append-nil, length-drop}
use Rattle.std.specs.Io.KnownBytes.{Keeps, Consumes, IsAtEnd, prepend_known}
use Rattle.route_io.specs.declared.fault.Failed.{Failed}
use Rattle.route_io.specs.Sources.{SourceState}
use Rattle.line_text.specs.declared.limits.LineFault.{LineFault}
use Rattle.line_text.specs.declared.limits.LineFault.TheVariants.{TooLong, Total, Read}
use Rattle.line_text.specs.Lines.{first_lf, raw_line, line_size, without_cr}
use Rattle.line_text.specs.Marks.{first_fault, line_answer}
use Rattle.line_text.specs.Pieces.{past_line, Refilled, Refills, TakesWhole, LacksLf, Breaks}
use Rattle.line_text.specs.Reading.{Lines, left_for, rest_of, Counts, CountsLine, CountsNone, Ends, KeepsRest, KnowsEnd, LosesNone, Tells, Advances}
use Rattle.line_text.proofs.LineLemmas.{BeginsAlike, begins_alike, begins_alike-nil, first_lf-le, first_lf-part, length-raw_line, length-without_cr, lines_of-first, answer_of-some, never_read, first_fault-alike, first_fault-broken}

-- Bytes were taken from a source behind those that were held, and there is no current line.
pub record Holds (old now : Lines) (before after : SourceState) : Type 0 where
  pub stays : now ≡ record old { held = now.held; text = []; ended = now.ended }
  pub rest : Keeps (rest_of old before) (rest_of now after)
  pub loses_none : LosesNone old now before after
  pub stays_ended : old.ended ≡ true → now.ended ≡ true
  pub knows_end : KnowsEnd old before → KnowsEnd now after

-- bytes that are taken from the source are held
pub rest_grown : (rest left later : Option (List ℕ)) (held more : List ℕ) → Keeps rest (prepend_known held left) → Consumes left later more
    → Keeps rest (prepend_known (held ++ more) later)
rest_grown None left later held more kept took = tt
rest_grown (Some text) None later held more kept took = absurd kept
rest_grown (Some text) (Some xs) None held more kept took = absurd took
rest_grown (Some text) (Some xs) (Some ys) held more kept took = append_assoc held more ys ∙ ap (λ bytes. held ++ bytes) (sym took) ∙ kept

-- behind the end of input no byte is left
pub none_left : (now : Lines) (source : SourceState) (more : List ℕ) → now.ended ≡ true → left_for now source ≡ Some more → more ≡ []
none_left now source more end left =
    let nothing : Some [] ≡ Some more = sym (ap (λ ended. cond ended (Some []) source.left) end) ∙ left in cc

-- where the source tells what it has left, that stands behind what is held
pub rest_told : (lines : Lines) (source : SourceState) (more : List ℕ) → KnowsEnd lines source → source.left ≡ Some more
    → rest_of lines source ≡ prepend_known lines.held source.left
rest_told lines source more knows left = ap (prepend_known lines.held) (by lines.ended knows) where
  by : (ended : Bool) → (ended ≡ true → IsAtEnd source.left) → cond ended (Some []) source.left ≡ source.left
  by true knows = let nothing : more ≡ [] = subst IsAtEnd left (knows refl) in ap Some (sym nothing) ∙ sym left
  by false knows = refl

-- a read doesn't forget the end of input
pub ended_behind : (old new : Lines) (more : List ℕ) (result : Result Bool Failed) → Refilled old new more result → old.ended ≡ true → new.ended ≡ true
ended_behind old new more (Ok true) refilled e = refilled.1 ∙ e
ended_behind old new more (Ok false) refilled e = refilled.1
ended_behind old new more (Err failed) refilled e = let no : true ≡ false = sym e ∙ refilled.1 in absurd cc

-- the end of input stays known in a step that reads nothing
pub ends_by : {T : Type 0} (old now next : Lines) (before after : SourceState) (result : Result T LineFault) → next.ended ≡ now.ended
    → (old.ended ≡ true → now.ended ≡ true) → (KnowsEnd old before → KnowsEnd now after) → (result ≡ Err Read → now.ended ≡ false)
    → Ends old next before after result
ends_by old now next before after result ended stays knows_end fails = record {
  stays = λ was. ended ∙ stays was;
  knows_end = λ knows. rw ended (knows_end knows);
  fails_before = λ e. by old.ended refl (fails e);
} where
  by : (is : Bool) → old.ended ≡ is → now.ended ≡ false → old.ended ≡ false
  by true e going = let both : true ≡ false = sym (stays e) ∙ going in absurd cc
  by false e going = e

-- where no byte was taken, what is held stayed
pub held_same : (old new more : List ℕ) → new ≡ old ++ more → more ≡ [] → new ≡ old
held_same old new more grown none = grown ∙ ap (λ xs. old ++ xs) none ∙ append-nil old

-- what holds of the bytes that are held, with whatever is left behind them, holds of the rest that is told
pub known : (rest left : Option (List ℕ)) (held : List ℕ) (P : List ℕ → Option (List ℕ) → Type 0) → Keeps rest (prepend_known held left)
    → ((more : List ℕ) → left ≡ Some more → P (held ++ more) (Some more)) → IfSome rest (λ text. P text left)
known None left held P kept each = tt
known (Some text) None held P kept each = absurd kept
known (Some text) (Some more) held P kept each = subst (λ bytes. P bytes (Some more)) kept (each more refl)

-- bytes that are passed or held are not lost
pub loses_none-kept : (old now next : Lines) (before after : SourceState) → LosesNone old now before after
    → next.passed + length next.held ≡ now.passed + length now.held → LosesNone old next before after
loses_none-kept old now next before after none kept =
    subst (λ size. IfSome before.left (λ left. IsSomeAnd after.left (λ more. size + length more ≡ old.passed + length old.held + length left)))
    (sym kept) none

-- bytes that are read are held
pub loses_none-read : (old now next : Lines) (before after later : SourceState) (more : List ℕ) → LosesNone old now before after
    → Consumes after.left later.left more → next.passed + length next.held ≡ now.passed + length now.held + length more
    → LosesNone old next before later
loses_none-read old now next before after later more none taken grown = by before.left after.left later.left none taken where
  by : (first left rest : Option (List ℕ))
      → IfSome first (λ all. IsSomeAnd left (λ bytes. now.passed + length now.held + length bytes ≡ old.passed + length old.held + length all))
      → Consumes left rest more
      → IfSome first (λ all. IsSomeAnd rest (λ bytes. next.passed + length next.held + length bytes ≡ old.passed + length old.held + length all))
  by None left rest none taken = tt
  by (Some all) None rest none taken = absurd none
  by (Some all) (Some bytes) None none taken = absurd taken
  by (Some all) (Some bytes) (Some later) none taken = omega (arith, none, grown, ap length taken, length-append more later)

module _ (old now new : Lines) (before after : SourceState) (holds : Holds old now before after) where
  -- the same reader by its parts
  abbrev same : Lines
  same = record old { held = now.held; text = []; ended = now.ended }

  is_same : now.passed ≡ old.passed
  is_same = ap (λ lines. lines.passed) holds.stays

  -- a step that loses no byte, as its answer says
  advances_by : (next : Lines) (result : Result Bool LineFault) → next.limits ≡ old.limits → next.ended ≡ now.ended → Counts old next result
      → (result ≡ Err Read → (now.ended ≡ false) × (first_lf next.held ≡ length next.held)) → next.passed + length next.held ≡ old.passed + length now.held
      → ((more : List ℕ) → left_for now after ≡ Some more → Tells old next (now.held ++ more) (Some (next.held ++ more)) result)
      → Advances old next before after result
  advances_by next result limits ended counts fails kept each = record {
    limits = limits;
    counts = counts;
    lines = subst (λ is. IfSome (rest_of old before) (λ rest. Tells old next rest (prepend_known next.held (cond is (Some []) after.left)) result))
        (sym ended) (known _ _ now.held (λ rest left. Tells old next rest (prepend_known next.held left) result) holds.rest each);
    loses_none = loses_none-kept old now next before after holds.loses_none (omega (arith, kept, is_same));
    ends = ends_by old now next before after result ended holds.stays_ended holds.knows_end (λ failed. (fails failed).0);
    fails_within = λ failed. (fails failed).1;
  }

  advances_same : (result : Result Bool LineFault) → (CountsNone old same → Counts old same result)
      → (result ≡ Err Read → (now.ended ≡ false) × (first_lf now.held ≡ length now.held))
      → ((more : List ℕ) → left_for now after ≡ Some more → Tells old same (now.held ++ more) (Some (now.held ++ more)) result)
      → Advances old same before after result
  advances_same result counts fails tells =
      advances_by same result refl refl (counts (record { text = refl; number = refl; passed = refl })) fails refl tells

  counts_line : 0 < length now.held → CountsLine old (past_line same)
  counts_line some =
      let text = length-without_cr (raw_line now.held) in
      let raw = length-raw_line now.held in
      let within = first_lf-le now.held in
      record { number = refl; more = omega arith; holds_text = omega arith; at_most = omega arith }

  advances_past : 0 < length now.held → first_fault old.limits old.passed now.held ≡ None
      → (now.ended ≡ false → first_lf now.held < length now.held)
      → ((more : List ℕ) → left_for now after ≡ Some more → BeginsAlike now.held more) → Advances old (past_line same) before after (Ok true)
  advances_past some within whole alike =
      advances_by (past_line same) (Ok true) refl refl (counts_line some) (λ e. absurd cc)
      (omega (arith, length-raw_line now.held, first_lf-le now.held, length-drop {A = ℕ})) (λ more left.
      let line = alike more left in
      let long : 0 < length (now.held ++ more) = omega (arith, length-append now.held more) in
      record {
        answer = answer_of-some old.limits old.passed (now.held ++ more) long
            ∙ ap line_answer (first_fault-alike old.limits old.passed now.held more line ∙ within);
        text = ap without_cr (sym line.raw);
        passed = ap (λ size. old.passed + size) (sym line.size);
        left = ap Some (sym line.behind);
        lines = lines_of-first (now.held ++ more) long;
        last = λ part. by_ended more line part now.ended refl;
      }) where
        by_ended : (more : List ℕ) → BeginsAlike now.held more → first_lf (now.held ++ more) ≡ length (now.held ++ more) → (is : Bool) → now.ended ≡ is
            → now.ended ≡ true
        by_ended more line part true e = e
        by_ended more line part false e =
            let same : length (raw_line (now.held ++ more)) ≡ length (raw_line now.held) = ap length line.raw in
            absurd (omega (arith, whole e, part, same, length-raw_line (now.held ++ more), length-raw_line now.held, length-append now.held more))

  -- the first line that is held becomes current
  pub advances_whole : TakesWhole now new → Advances old new before after (Ok true)
  advances_whole taken =
      let step = rw holds.stays at taken in
      rw step.taken (advances_past (omega (arith, taken.whole)) step.within (λ going. taken.whole)
      (λ more left. begins_alike now.held more taken.whole))

  broken : (fault : LineFault) → Breaks same new fault → (more : List ℕ) → KeepsRest old (now.held ++ more) (Some (now.held ++ more)) (Err fault)
  broken fault breaks more = record {
    answer = answer_of-some old.limits old.passed (now.held ++ more) (omega (arith, breaks.some, length-append now.held more))
        ∙ ap line_answer (first_fault-broken old.limits old.passed now.held more fault breaks.broken);
    left = refl;
  }

  advances_fault : (fault : LineFault) → Breaks same new fault → Advances old same before after (Err fault)
  advances_fault TooLong breaks = advances_same (Err TooLong) (λ none. none) (λ e. absurd cc) (λ more left. broken TooLong breaks more)
  advances_fault Total breaks = advances_same (Err Total) (λ none. none) (λ e. absurd cc) (λ more left. broken Total breaks more)
  advances_fault Read breaks = absurd (never_read old.limits old.passed (length (raw_line now.held)) (line_size now.held) breaks.broken)

  pub advances_broken : (fault : LineFault) → Breaks now new fault → Advances old new before after (Err fault)
  advances_broken fault breaks = let step = rw holds.stays at breaks in rw step.same (advances_fault fault step)

  -- the last line, which has no LF, becomes current at the end of input, if there is a byte of it
  pub advances_end : (some : Bool) → (IsTrue some → (0 < length now.held) × (new ≡ past_line now)) → (some ≡ false → (now.held ≡ []) × (new ≡ now))
      → first_fault now.limits now.passed now.held ≡ None → now.ended ≡ true → Advances old new before after (Ok some)
  advances_end true whole none within end =
      let last = whole refl in
      rw (last.1, holds.stays) (advances_past last.0 (rw holds.stays at within) (λ going. let no : false ≡ true = sym going ∙ end in absurd cc)
      (λ more left. let nothing : more ≡ [] = none_left now after more end left in rw nothing (begins_alike-nil now.held)))
  advances_end false whole none within end =
      let last = none refl in
      rw (last.1, holds.stays) (advances_same (Ok false) (λ none. (none, end)) (λ e. absurd cc) (λ more left.
      let nothing : more ≡ [] = none_left now after more end left in record { answer = rw (last.0, nothing) refl; left = refl }))

  -- a read failed
  pub advances_failed : now.ended ≡ false → first_lf now.held ≡ length now.held → Advances old now before after (Err Read)
  advances_failed goes_on part = rw holds.stays (advances_same (Err Read) (λ none. none) (λ e. (goes_on, part)) (λ more left. refl))

-- a read behind the bytes that are held, which have no LF
module _ (now mid next : Lines) (lacks : LacksLf now mid) (stays : next ≡ record mid { held = next.held; ended = next.ended })
    (after later : SourceState) (result : Result Bool Failed) (fills : Refills mid next after later result) where
  pub holds_more : (old : Lines) (before : SourceState) → Holds old now before after → Holds old next before later
  holds_more old before was =
      let holds = subst (λ lines. Holds old lines before after) (sym lacks.same) was in
      let with_held : Lines → Lines = λ lines. record lines { held = next.held; ended = next.ended } in
      let size = length-append mid.held fills.more in
      record {
        stays = stays ∙ ap with_held holds.stays;
        rest = rw fills.grown (rest_grown (rest_of old before) (left_for mid after) (left_for next later) mid.held fills.more holds.rest fills.known);
        loses_none = loses_none-read old mid next before after later fills.more holds.loses_none fills.taken
            (omega (arith, ap (λ lines. lines.passed) stays, ap length fills.grown, size));
        stays_ended = λ e. ended_behind mid next fills.more result fills.answer (holds.stays_ended e);
        knows_end = λ knows. fills.knows_end (holds.knows_end knows);
      }

  pub searched_none : length mid.held ≤ first_lf next.held
  searched_none = rw fills.grown (first_lf-part mid.held fills.more lacks.part)
