-- The next request, step by step.
use Rattle.std.proofs.Common.{◌≡◌, ℕ, ◌+◌, ◌-◌, ◌<◌, ◌≤◌, ◌||◌, nat_lt, max, Bool, true, false, cond, List, [], ◌∷◌, ◌++◌, Option, Some, None, IfSome, Result, Ok, Err, length, drop, take, is_some, refl, sym, ap, subst, ◌∙◌, arith, append_assoc, length-append}
use Rattle.std.proofs.Math.Seq.{drop-append-add, drop-append_seam, take-append-add}
use Rattle.std.proofs.lemmas.Bool.{lt-ltb, le-ltb}
use Rattle.std.proofs.lemmas.Bool.Decides.{nat_tests}
use Rattle.std.proofs.lemmas.List.{append-nil, length-drop}
use Rattle.std.specs.Io.KnownBytes.{Keeps, prepend_known}
use Rattle.route_io.specs.declared.fault.Failed.{Failed}
use Rattle.route_io.specs.Sources.{SourceState}
use Rattle.line_text.specs.declared.limits.LineFault.{LineFault}
use Rattle.line_text.specs.declared.limits.LineFault.TheVariants.{Total, Read}
use Rattle.line_text.specs.declared.limits.LineLimits.{LineLimits}
use Rattle.line_text.specs.declared.limits.Request.{Request}
use Rattle.line_text.specs.declared.limits.Request.TheVariants.{Whole, Long}
use Rattle.line_text.specs.Foreign.{IsSkipped, is_foreign}
use Rattle.line_text.specs.declared.foreign.LineSeen.{LineSeen}
use Rattle.line_text.specs.Lines.{first_lf, raw_line, after_line, line_size, without_cr}
use Rattle.line_text.specs.Pieces.{Refills}
use Rattle.line_text.specs.Reading.{CountsLine, KnowsEnd, Lines, LosesNone, left_for, rest_of}
use Rattle.line_text.specs.Requests.{request_by, first_request, request_of, request_text, RequestCounts, CountsEnd, CountsFault, FailsRead, PassesPart, TakesFirst, TellsRequest, Requests}
use Rattle.line_text.specs.RequestSteps.{request_behind, past_request, TakesEnded, LacksEnd, EndsPast, EndsInput, skipped_with, without_held}
use Rattle.line_text.proofs.LineLemmas.{BeginsAlike, begins_alike, begins_alike-nil, first_lf-le, first_lf-front, first_lf-grows, first_lf-part, length-raw_line, length-without_cr, lines_of-first}
use Rattle.line_text.proofs.AdvancesLemmas.{ended_behind, ends_by, held_same, known, loses_none-kept, loses_none-read, none_left, rest_grown}

-- Bytes of the first line were passed, if it is too long, others are held behind them, and there is no current line.
pub record HoldsPart (old now : Lines) (seen : Option LineSeen) (before after : SourceState) : Type 0 where
  pub front : List ℕ
  pub stays : now ≡ record old { held = now.held; text = []; passed = old.passed + length front; ended = now.ended }
  pub no_lf : first_lf front ≡ length front
  pub shows : IsSkipped seen front
  pub long : is_some seen ≡ true → old.limits.line < length front
  pub whole : is_some seen ≡ false → front ≡ []
  pub rest : Keeps (rest_of old before) (prepend_known (front ++ now.held) (left_for now after))
  pub loses_none : LosesNone old now before after
  pub stays_ended : old.ended ≡ true → now.ended ≡ true
  pub knows_end : KnowsEnd old before → KnowsEnd now after
  pub none_past : now.passed + length now.held ≤ max old.limits.total (old.passed + length old.held)

-- ---- a line of which a part was passed in front

-- The first line with a part in front that was passed, and with more behind what is held.
record BeginsBehind (front held more : List ℕ) : Type 0 where
  raw : raw_line (front ++ (held ++ more)) ≡ front ++ raw_line held
  lf : first_lf (front ++ (held ++ more)) ≡ length front + first_lf held
  size : line_size (front ++ (held ++ more)) ≡ length front + line_size held
  behind : after_line (front ++ (held ++ more)) ≡ after_line held ++ more

begins_behind : (front held more : List ℕ) → first_lf front ≡ length front → BeginsAlike held more → BeginsBehind front held more
begins_behind front held more no_lf alike =
    let rest = held ++ more in
    let parted = first_lf-front front rest no_lf in
    let same : first_lf rest ≡ first_lf held = sym (length-raw_line rest) ∙ ap length alike.raw ∙ length-raw_line held in
    let further : length front + first_lf rest + 1 ≡ length front + (first_lf rest + 1) = omega arith in
    let lf : first_lf (front ++ rest) ≡ length front + first_lf held = omega (arith, parted, same) in
    record {
      raw = ap (λ n. take n (front ++ rest)) lf ∙ take-append-add front rest (first_lf held)
          ∙ ap (λ line. front ++ line) (ap (λ n. take n rest) (sym same) ∙ alike.raw);
      lf = lf;
      size = omega (arith, parted, length-raw_line (front ++ rest), length-raw_line rest, length-append front rest, alike.size);
      behind = ap (λ n. drop (n + 1) (front ++ rest)) parted ∙ ap (λ n. drop n (front ++ rest)) further
          ∙ drop-append-add front rest (first_lf rest + 1) ∙ alike.behind;
    }

-- what is skipped in front leaves the request as it is
request_is : (limits : LineLimits) (cut : Bool) (front : List ℕ) (raw all : ℕ) → all ≡ length front + raw → (cut ≡ true → limits.line < length front)
    → (cut ≡ false → front ≡ []) → request_behind limits cut raw ≡ request_by limits all
request_is limits true front raw all e long whole = let past = long refl in rw (lt-ltb limits.line all (omega arith)) refl
request_is limits false front raw all e long whole =
    let same : raw ≡ all = omega (arith, ap length (whole refl)) in ap (request_by limits) same

whole_uncut : (limits : LineLimits) (cut : Bool) (raw : ℕ) → Whole ≡ request_behind limits cut raw → cut ≡ false
whole_uncut limits true raw e = let no : ⊥ = cc in absurd no
whole_uncut limits false raw e = refl

whole_short : (limits : LineLimits) (cut : Bool) (raw : ℕ) → Whole ≡ request_behind limits cut raw → raw ≤ limits.line
whole_short limits true raw e = let no : ⊥ = cc in absurd no
whole_short limits false raw e = grind (arith, nat_tests)

first_request-some : (limits : LineLimits) (text : List ℕ) → 0 < length text → first_request limits text ≡ Some (request_by limits (length (raw_line text)))
first_request-some limits [] some = absurd (omega arith)
first_request-some limits (byte ∷ text) some = refl

-- a line that ends within the total is a request
request_of-within : (limits : LineLimits) (passed : ℕ) (text : List ℕ) → passed + length (raw_line text) < limits.total → 0 < length text
    → request_of limits passed text ≡ Ok (Some (request_by limits (length (raw_line text))))
request_of-within limits passed text within some =
    rw (lt-ltb (passed + length (raw_line text)) limits.total within, first_request-some limits text some) refl

-- a line that doesn't end within the total is none
request_of-past : (limits : LineLimits) (passed : ℕ) (text : List ℕ) → limits.total ≤ passed + length (raw_line text)
    → request_of limits passed text ≡ Err Total
request_of-past limits passed text past = rw (le-ltb (passed + length (raw_line text)) limits.total past) refl

request_of-nothing : (limits : LineLimits) (passed : ℕ) → passed < limits.total → request_of limits passed [] ≡ Ok None
request_of-nothing limits passed within = rw (lt-ltb (passed + 0) limits.total (omega arith)) refl

-- ---- the answers

module _ (old now : Lines) (seen : Option LineSeen) (before after : SourceState) (cuts : HoldsPart old now seen before after) where
  abbrev cut : Bool
  cut = is_some seen

  -- the same reader by its parts
  abbrev same : Lines
  same = record old { held = now.held; text = []; passed = old.passed + length cuts.front; ended = now.ended }

  each_rest : (P : List ℕ → Option (List ℕ) → Type 0)
      → ((more : List ℕ) → left_for now after ≡ Some more → P (cuts.front ++ (now.held ++ more)) (Some more))
      → IfSome (rest_of old before) (λ rest. P rest (left_for now after))
  each_rest P each =
      known _ _ (cuts.front ++ now.held) P cuts.rest (λ more left.
      subst (λ rest. P rest (Some more)) (sym (append_assoc cuts.front now.held more)) (each more left))

  -- a step that loses no byte, as its answer says
  requests_by : (next : Lines) (result : Result (Option Request) LineFault) → next.limits ≡ old.limits → next.ended ≡ now.ended
      → RequestCounts old next result → (result ≡ Err Read → now.ended ≡ false) → next.passed + length next.held ≡ same.passed + length now.held
      → ((more : List ℕ) → left_for now after ≡ Some more → TellsRequest old next (cuts.front ++ (now.held ++ more)) (Some (next.held ++ more)) result)
      → Requests old next before after result
  requests_by next result limits ended counts goes_on kept each = record {
    limits = limits;
    counts = counts;
    request = subst (λ is. IfSome (rest_of old before) (λ rest. TellsRequest old next rest (prepend_known next.held (cond is (Some []) after.left)) result))
        (sym ended) (each_rest (λ rest left. TellsRequest old next rest (prepend_known next.held left) result) each);
    loses_none = loses_none-kept old now next before after cuts.loses_none (omega (arith, kept, ap (λ lines. lines.passed) cuts.stays));
    ends = ends_by old now next before after result ended cuts.stays_ended cuts.knows_end goes_on;
    none_past = omega (arith, kept, cuts.none_past, ap (λ lines. lines.passed) cuts.stays);
  }

  -- the first line that is held becomes this request
  module _ (request : Request) (is : request ≡ request_behind old.limits cut (length (raw_line now.held))) (some : cut ≡ false → 0 < length now.held)
      (foreign : Bool) (tells : foreign ≡ is_foreign (cuts.front ++ raw_line now.held)) where
    -- where a part was passed, or a byte is held, the line takes one
    takes_some : 0 < length cuts.front + length now.held
    takes_some = by cut refl where
      by : (c : Bool) → cut ≡ c → 0 < length cuts.front + length now.held
      by true e = omega (arith, cuts.long e)
      by false e = omega (arith, some e)

    counts_past : (r : Request) → request ≡ r → RequestCounts old (past_request same r foreign) (Ok (Some r))
    counts_past Whole e =
        let uncut = whole_uncut old.limits cut (length (raw_line now.held)) (sym e ∙ is) in
        let none = ap length (cuts.whole uncut) in
        let text = length-without_cr (raw_line now.held) in
        let raw = length-raw_line now.held in
        let within = first_lf-le now.held in
        let byte = some uncut in
        let counts : CountsLine old (past_request same Whole foreign) =
        record { number = refl; more = omega arith; holds_text = omega arith; at_most = omega arith } in
        let asked : Whole ≡ request_behind old.limits cut (length (raw_line now.held)) = sym e ∙ is in
        record {
          counts = counts;
          raw = raw_line now.held;
          short = whole_short old.limits cut (length (raw_line now.held)) asked;
          text = refl;
          foreign = tells ∙ ap (λ front. is_foreign (front ++ raw_line now.held)) (cuts.whole uncut);
        }
    counts_past Long e =
        let asked : Long ≡ request_by old.limits (length cuts.front + first_lf now.held) = sym e ∙ is
        ∙ request_is old.limits cut cuts.front (length (raw_line now.held)) _ (omega (arith, length-raw_line now.held)) cuts.long cuts.whole in
        let raw = length-raw_line now.held in
        let within = first_lf-le now.held in
        record {
          text = refl;
          number = refl;
          more = grind (arith, nat_tests);
          raw = cuts.front ++ raw_line now.held;
          long = let size = length-append cuts.front (raw_line now.held) in grind (arith, nat_tests);
          foreign = tells;
        }

    text_past : (r : Request) → request ≡ r → (more : List ℕ) → BeginsAlike now.held more
        → request_text r (raw_line now.held) ≡ request_text r (raw_line (cuts.front ++ (now.held ++ more)))
    text_past Long e more alike = refl
    text_past Whole e more alike =
        let nothing = cuts.whole (whole_uncut old.limits cut (length (raw_line now.held)) (sym e ∙ is)) in
        ap without_cr (sym (ap (λ front. raw_line (front ++ (now.held ++ more))) nothing ∙ alike.raw))

    -- without an LF the line is the last one
    is_last : (now.ended ≡ false → first_lf now.held < length now.held) → (more : List ℕ) → (line : BeginsBehind cuts.front now.held more)
        → first_lf (cuts.front ++ (now.held ++ more)) ≡ length (cuts.front ++ (now.held ++ more)) → now.ended ≡ true
    is_last whole more line part = by now.ended refl where
      by : (is : Bool) → now.ended ≡ is → now.ended ≡ true
      by true e = e
      by false e =
          absurd (omega (arith, whole e, part, line.lf, length-append cuts.front (now.held ++ more), length-append now.held more))

    takes_first : old.passed + length cuts.front + first_lf now.held < old.limits.total → (now.ended ≡ false → first_lf now.held < length now.held)
        → (more : List ℕ) → BeginsAlike now.held more → TakesFirst old (past_request same request foreign) (cuts.front ++ (now.held ++ more)) (Some (after_line now.held ++ more)) request
    takes_first within whole more alike =
        let rest = cuts.front ++ (now.held ++ more) in
        let line = begins_behind cuts.front now.held more cuts.no_lf alike in
        let raw : length (raw_line rest) ≡ length cuts.front + length (raw_line now.held) =
        omega (arith, line.lf, length-raw_line rest, length-raw_line now.held) in
        let long : 0 < length rest =
        omega (arith, takes_some, length-append cuts.front (now.held ++ more), length-append now.held more) in
        let asked = request_is old.limits cut cuts.front (length (raw_line now.held)) _ raw cuts.long cuts.whole in
        record {
          answer = request_of-within old.limits old.passed rest (omega (arith, within, line.lf, length-raw_line rest)) long
              ∙ ap (λ r. Ok (Some r)) (sym (is ∙ asked));
          text = text_past request refl more alike;
          foreign = tells ∙ ap is_foreign (sym line.raw);
          passed = omega (arith, line.size);
          left = ap Some (sym line.behind);
          lines = lines_of-first rest long;
          last = is_last whole more line;
        }

    requests_past : old.passed + length cuts.front + first_lf now.held < old.limits.total → (now.ended ≡ false → first_lf now.held < length now.held)
        → ((more : List ℕ) → left_for now after ≡ Some more → BeginsAlike now.held more)
        → Requests old (past_request same request foreign) before after (Ok (Some request))
    requests_past within whole alike =
        requests_by (past_request same request foreign) (Ok (Some request)) refl refl (counts_past request refl) (λ e. absurd cc)
        (omega (arith, length-raw_line now.held, first_lf-le now.held, length-drop {A = ℕ}))
        (λ more left. takes_first within whole more (alike more left))

  -- the first line that is held with its LF is taken
  pub requests_whole : (next : Lines) (request : Request) → TakesEnded now next seen request → Requests old next before after (Ok (Some request))
  requests_whole next request taken =
      let step = rw cuts.stays at taken in
      rw step.taken (requests_past request step.answer (λ e. omega (arith, step.whole)) next.foreign (step.foreign cuts.front cuts.shows) step.within (λ going. step.whole)
      (λ more left. begins_alike now.held more step.whole))

  part_left : (more : List ℕ) → PassesPart old same (cuts.front ++ (now.held ++ more)) (Some (now.held ++ more))
  part_left more =
      let rest = now.held ++ more in
      let size : old.passed + length cuts.front - old.passed ≡ length cuts.front = omega arith in
      record {
        part = omega (arith, first_lf-front cuts.front rest cuts.no_lf, length-raw_line (cuts.front ++ rest));
        left = ap Some (sym (ap (λ n. drop n (cuts.front ++ rest)) size ∙ drop-append_seam cuts.front rest));
      }

  counts_fault : CountsFault old same
  counts_fault = record { text = refl; number = refl; passed = omega arith }

  -- the first line doesn't end within the total
  pub requests_fault : (next : Lines) (fault : LineFault) → EndsPast now next fault → Requests old next before after (Err fault)
  requests_fault next fault past =
      let step = rw cuts.stays at past in
      rw (step.total, step.same) (requests_by same (Err Total) refl refl (record { counts = counts_fault; taken = step.past }) (λ e. absurd cc) refl (λ more left.
      let rest = now.held ++ more in
      let whole = cuts.front ++ rest in
      let far : old.limits.total ≤ old.passed + length (raw_line whole) =
      omega (arith, step.past, first_lf-front cuts.front rest cuts.no_lf, first_lf-grows now.held more, length-raw_line whole) in
      record { answer = request_of-past old.limits old.passed whole far; part = part_left more }))

  -- a read failed
  requests_read : first_lf now.held ≡ length now.held → now.passed + length now.held < now.limits.total → now.ended ≡ false
      → Requests old now before after (Err Read)
  requests_read part within goes_on =
      let total = rw cuts.stays at within in
      let fails : FailsRead old same = record { counts = counts_fault; part = part; within = total } in
      rw cuts.stays (requests_by same (Err Read) refl refl fails (λ e. goes_on) refl (λ more left. part_left more))

  -- the last line, which has no LF, is taken at the end of input, if there is a byte of it
  requests_end : (next : Lines) (result : Option Request) → EndsInput now next seen result → first_lf now.held ≡ length now.held
      → now.passed + length now.held < now.limits.total → now.ended ≡ true → Requests old next before after (Ok result)
  requests_end next (Some request) last part within end =
      let step = rw cuts.stays at last in
      let total = rw cuts.stays at within in
      rw step.taken (requests_past request step.answer step.some next.foreign (step.foreign cuts.front cuts.shows) (omega (arith, total, part)) (λ going. let no : false ≡ true = sym going ∙ end in absurd cc)
      (λ more left. let nothing : more ≡ [] = none_left now after more end left in rw nothing (begins_alike-nil now.held)))
  requests_end next None last part within end =
      let step = rw cuts.stays at last in
      let total = rw cuts.stays at within in
      let front = cuts.whole step.uncut in
      let counts : CountsEnd old same = record {
        counts = record { text = refl; number = refl; passed = omega (arith, ap length front) };
        nothing = step.nothing;
        within = omega (arith, total);
        ended = end;
      } in
      rw step.same (requests_by same (Ok None) refl refl counts (λ e. absurd cc) refl (λ more left.
      let nothing : more ≡ [] = none_left now after more end left in
      let empty : cuts.front ++ (now.held ++ more) ≡ [] = rw (front, step.nothing, nothing) refl in
      record { answer = ap (request_of old.limits old.passed) empty ∙ request_of-nothing old.limits old.passed (omega arith); part = part_left more }))

-- ---- the way to the next read

past_limit : (line : ℕ) (cut : Bool) (front held all : ℕ) → all ≡ front + held → (cut ≡ true → line < front) → true ≡ (cut || nat_lt line held) → line < all
past_limit line true front held all e long is = omega (arith, long refl)
past_limit line false front held all e long is = grind (arith, nat_tests)

-- what is held of a line that is too long is passed
skips_held : (old now : Lines) (seen later : Option LineSeen) (before after : SourceState) → HoldsPart old now seen before after → first_lf now.held ≡ length now.held
    → is_some later ≡ (is_some seen || nat_lt now.limits.line (length now.held))
    → ((front : List ℕ) → IsSkipped seen front → IsSkipped later (skipped_with front now.held (is_some later)))
    → HoldsPart old (without_held now (is_some later)) later before after
skips_held old now seen (Some last) before after cuts part is shows =
    let size = length-append cuts.front now.held in
    let add : old.passed + length cuts.front + length now.held ≡ old.passed + length (cuts.front ++ now.held) = omega (arith, size) in
    let passed : Lines → Lines = λ lines. record lines { held = []; passed = lines.passed + length now.held } in
    let part_of_old : ℕ → Lines = λ n. record old { held = []; text = []; passed = n; ended = now.ended } in
    record {
      front = cuts.front ++ now.held;
      stays = ap passed cuts.stays ∙ ap part_of_old add;
      no_lf = first_lf-front cuts.front now.held cuts.no_lf ∙ omega (arith, size, part);
      shows = shows cuts.front cuts.shows;
      long = λ e. past_limit old.limits.line (is_some seen) (length cuts.front) (length now.held) _ (omega (arith, size)) cuts.long
          (is ∙ ap (λ lines. is_some seen || nat_lt lines.limits.line (length now.held)) cuts.stays);
      whole = λ e. let no : ⊥ = cc in absurd no;
      rest = rw (append-nil (cuts.front ++ now.held)) cuts.rest;
      loses_none = loses_none-kept old now (without_held now true) before after cuts.loses_none (omega arith);
      stays_ended = cuts.stays_ended;
      knows_end = cuts.knows_end;
      none_past = omega (arith, cuts.none_past);
    }
skips_held old now (Some first) None before after cuts part is shows = let no : ⊥ = cc in absurd no
skips_held old now None None before after cuts part is shows = cuts

module _ (old now mid skipped next : Lines) (seen later : Option LineSeen) (before after behind : SourceState) (result : Result Bool Failed)
    (cuts : HoldsPart old now seen before after) (lacks : LacksEnd now mid) (is : is_some later ≡ (is_some seen || nat_lt mid.limits.line (length mid.held)))
    (without : skipped ≡ without_held mid (is_some later)) (shows : (front : List ℕ) → IsSkipped seen front → IsSkipped later (skipped_with front mid.held (is_some later)))
    (stays : next ≡ record skipped { held = next.held; ended = next.ended })
    (none_past : skipped.passed + length next.held ≤ skipped.limits.total) (fills : Refills skipped next after behind result) where
  cuts_skipped : HoldsPart old skipped later before after
  cuts_skipped =
      let was = subst (λ lines. HoldsPart old lines seen before after) (sym lacks.same) cuts in
      rw without (skips_held old mid seen later before after was lacks.part is shows)

  no_lf_held : (l : Bool) → first_lf (without_held mid l).held ≡ length (without_held mid l).held
  no_lf_held true = refl
  no_lf_held false = lacks.part

  part_skipped : first_lf skipped.held ≡ length skipped.held
  part_skipped = rw without (no_lf_held (is_some later))

  within_held : (l : Bool) → (without_held mid l).passed + length (without_held mid l).held < (without_held mid l).limits.total
  within_held true = omega (arith, lacks.within)
  within_held false = lacks.within

  within_skipped : skipped.passed + length skipped.held < skipped.limits.total
  within_skipped = rw without (within_held (is_some later))

  -- the end of input stays known
  pub skipped_ended : old.ended ≡ true → skipped.ended ≡ true
  skipped_ended = cuts_skipped.stays_ended

  -- a read behind the bytes that are held, which have no LF
  pub cuts_more : HoldsPart old next later before behind
  cuts_more =
      let was = cuts_skipped in
      let with_held : Lines → Lines = λ lines. record lines { held = next.held; ended = next.ended } in
      let grown : (was.front ++ skipped.held) ++ fills.more ≡ was.front ++ next.held =
      append_assoc was.front skipped.held fills.more ∙ ap (λ held. was.front ++ held) (sym fills.grown) in
      record {
        front = was.front;
        stays = stays ∙ ap with_held was.stays;
        no_lf = was.no_lf;
        shows = was.shows;
        long = was.long;
        whole = was.whole;
        rest = rw (← grown) (rest_grown (rest_of old before) (left_for skipped after) (left_for next behind) (was.front ++ skipped.held) fills.more was.rest
            fills.known);
        loses_none = loses_none-read old skipped next before after behind fills.more was.loses_none fills.taken
            (omega (arith, ap (λ lines. lines.passed) stays, ap length fills.grown, length-append skipped.held fills.more));
        stays_ended = λ e. ended_behind skipped next fills.more result fills.answer (was.stays_ended e);
        knows_end = λ knows. fills.knows_end (was.knows_end knows);
        none_past = omega (arith, none_past, ap (λ lines. lines.passed) stays, ap (λ lines. lines.limits.total) was.stays);
      }

  -- the read found the end of input, and the last line is taken, if there is a byte of it
  pub requests_last : (last : Lines) (answer : Option Request) → EndsInput next last later answer → result ≡ Ok false
      → Requests old last before behind (Ok answer)
  requests_last last answer ends is_end =
      let end = rw is_end at fills.answer in
      let same = held_same skipped.held next.held fills.more fills.grown end.0 in
      requests_end old next later before behind cuts_more last answer ends (rw same part_skipped) (rw (stays, same) within_skipped) end.1

  -- the read failed
  pub requests_failed : (failed : Failed) → result ≡ Err failed → Requests old next before behind (Err Read)
  requests_failed failed is_err =
      let failed = rw is_err at fills.answer in
      let same = held_same skipped.held next.held fills.more fills.grown failed.0 in
      requests_read old next later before behind cuts_more (rw same part_skipped) (rw (stays, same) within_skipped) failed.2

  pub searched_none : length skipped.held ≤ first_lf next.held
  searched_none = rw fills.grown (first_lf-part skipped.held fills.more part_skipped)
