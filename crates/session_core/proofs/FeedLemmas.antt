-- What the next request does to the bytes of a link that were passed, and to the lines among them.
use Rattle.std.proofs.Common.{◌≡◌, ℕ, ◌+◌, ◌-◌, ◌<◌, ◌≤◌, ◌⊎◌, List, [], ◌∷◌, ◌++◌, Option, Some, None, Ok, Err, length, take, drop, refl, sym, ap, ◌∙◌, arith, append_assoc, length-append, ⊎_elim, inl, inr}
use Rattle.std.proofs.lemmas.Bool.{cases_lt}
use Rattle.std.proofs.lemmas.Bool.Decides.{nat_tests}
use Rattle.std.proofs.lemmas.List.{append-nil, take-append-drop, length-take, length-drop, nil_from_length}
use Rattle.std.specs.Io.KnownBytes.{Consumes, prepend_known}
use Rattle.line_text.specs.Lines.{first_lf, raw_line, after_line, lines_of}
use Rattle.line_text.specs.Reading.{Lines}
use Rattle.line_text.specs.Requests.{request_by, first_request, request_of, request_text, PassesPart, TakesFirst, TakesNone}
use Rattle.line_text.specs.declared.limits.LineFault.{LineFault}
use Rattle.line_text.specs.declared.limits.LineLimits.{LineLimits}
use Rattle.line_text.specs.declared.limits.Request.{Request}
use Rattle.line_text.specs.declared.limits.Request.TheVariants.{Whole, Long}
use Rattle.line_text.proofs.LineLemmas.{first_lf-le, first_lf-front, length-raw_line}
use Rattle.session_core.specs.Lines.{IsText, ended_lines, max_request}
use Rattle.session_core.specs.Links.{AreFirst, IsAll}
use Rattle.session_core.specs.Serving.{AreEnded, AreAll, PassesLines}
use Rattle.session_core.proofs.LinesLemmas.{ended_lines-none, first_is_one, first_lf-take}

-- ---- what the answer says of the rest

module _ (limits : LineLimits) (passed : ℕ) (rest : List ℕ) where
  -- a request ends within the total
  answer_within : (found : Option Request) → request_of limits passed rest ≡ Ok found → passed + length (raw_line rest) < limits.total
  answer_within found e = grind (arith, nat_tests)

  answer_found : (found : Option Request) → request_of limits passed rest ≡ Ok found → first_request limits rest ≡ found
  answer_found found e = grind (arith, nat_tests)

  -- where the total was reached, the first line doesn't end within it
  pub answer_past : (fault : LineFault) → request_of limits passed rest ≡ Err fault → limits.total ≤ passed + length (raw_line rest)
  answer_past fault e = grind (arith, nat_tests)

found_some : (limits : LineLimits) (rest : List ℕ) (request : Request) → first_request limits rest ≡ Some request
    → (0 < length rest) × (request ≡ request_by limits (length (raw_line rest)))
found_some limits [] request e = absurd cc
found_some limits (byte ∷ rest) request e = (omega arith, cc)

found_none : (limits : LineLimits) (rest : List ℕ) → first_request limits rest ≡ None → rest ≡ []
found_none limits [] e = refl
found_none limits (byte ∷ rest) e = absurd cc

text_by : (limits : LineLimits) (request : Request) (raw : List ℕ) → limits.line ≡ max_request → request ≡ request_by limits (length raw)
    → IsText request (request_text request raw) raw
text_by limits Whole raw line e = (grind (arith, nat_tests), refl)
text_by limits Long raw line e = grind (arith, nat_tests)

-- the text is that of the first line of the rest
pub first_text : (old new : Lines) (rest : List ℕ) (after : Option (List ℕ)) (request : Request) → old.limits.line ≡ max_request
    → TakesFirst old new rest after request → IsText request new.text (raw_line rest)
first_text old new rest after request line takes =
    let found = answer_found old.limits old.passed rest (Some request) takes.answer in
    rw takes.text (text_by old.limits request (raw_line rest) line (found_some old.limits rest request found).1)

-- ---- what is left

-- The source tells what is left, and that stands behind what is held.
pub record IsLeft (held rest : List ℕ) (left : Option (List ℕ)) : Type 0 where
  pub more : List ℕ
  pub is : left ≡ Some more
  pub parts : rest ≡ held ++ more

-- the source tells where the rest is told
pub is_left : (held rest : List ℕ) (left : Option (List ℕ)) → prepend_known held left ≡ Some rest → IsLeft held rest left
is_left held rest None e = absurd cc
is_left held rest (Some more) e = record { more = more; is = refl; parts = cc }

drop_none : (size : ℕ) → drop {A = ℕ} size [] ≡ []
drop_none size = nil_from_length (drop size []) (omega (arith, length-drop {A = ℕ} size []))

-- nothing is held or left where nothing is left to read
held_none : (held more : List ℕ) → [] ≡ held ++ more → (held ≡ []) × (more ≡ [])
held_none [] more e = (refl, sym e)
held_none (byte ∷ held) more e = absurd cc

module _ (total : ℕ) (text : List ℕ) (old : Lines) (left : Option (List ℕ)) (lines : List (List ℕ)) (passes : PassesLines total text old left lines) where
  -- bytes that were taken are the passed ones, others of the rest behind them, and those that are held
  consumes : (part held : List ℕ) (after : Option (List ℕ)) (rest : List ℕ) → passes.rest ≡ part ++ rest → prepend_known held after ≡ Some rest
      → Consumes (Some text) after (passes.passed ++ (part ++ held))
  consumes part held after rest parts behind =
      let is = is_left held rest after behind in
      rw is.is (passes.parts ∙ ap (λ xs. passes.passed ++ xs) (parts ∙ ap (λ xs. part ++ xs) is.parts ∙ sym (append_assoc part held is.more))
      ∙ sym (append_assoc passes.passed (part ++ held) is.more))

  -- ---- one more line

  module _ (new : Lines) (after : Option (List ℕ)) (request : Request) (is_total : old.limits.total ≡ total)
      (takes : TakesFirst old new passes.rest (prepend_known new.held after) request) where
    abbrev raw : List ℕ
    raw = raw_line passes.rest

    line_within : old.passed + length raw < total
    line_within = omega (arith, answer_within old.limits old.passed passes.rest (Some request) takes.answer)

    rest_some : 0 < length passes.rest
    rest_some = (found_some old.limits passes.rest request (answer_found old.limits old.passed passes.rest (Some request) takes.answer)).0

    takes_ended : first_lf passes.rest < length passes.rest → AreEnded passes.passed lines → PassesLines total text new after (lines ++ raw ∷ [])
    takes_ended whole ended =
        let one = first_is_one passes.rest whole in
        let front = take (first_lf passes.rest + 1) passes.rest in
        let parted = take-append-drop (first_lf passes.rest + 1) passes.rest in
        record {
          passed = passes.passed ++ front;
          rest = after_line passes.rest;
          parts = passes.parts ∙ ap (λ xs. passes.passed ++ xs) (sym parted) ∙ sym (append_assoc passes.passed front (after_line passes.rest));
          behind = takes.left;
          size = omega (arith, length-append passes.passed front, passes.size, one.size, takes.passed, length-raw_line passes.rest);
          are = inl (record {
            all = λ more. ap lines_of (append_assoc passes.passed front more) ∙ ended.all (front ++ more)
                ∙ ap (λ xs. lines ++ xs) (one.all more) ∙ sym (append_assoc lines (raw ∷ []) (lines_of more));
            ended = λ more. ap ended_lines (append_assoc passes.passed front more) ∙ ended.ended (front ++ more)
                ∙ ap (λ xs. lines ++ xs) (one.ended more) ∙ sym (append_assoc lines (raw ∷ []) (ended_lines more));
          });
        }

    takes_last : first_lf passes.rest ≡ length passes.rest → AreEnded passes.passed lines → PassesLines total text new after (lines ++ raw ∷ [])
    takes_last part ended =
        let nothing : after_line passes.rest ≡ [] =
        nil_from_length (after_line passes.rest) (omega (arith, length-drop (first_lf passes.rest + 1) passes.rest)) in
        record {
          passed = passes.passed ++ passes.rest;
          rest = [];
          parts = passes.parts ∙ sym (append-nil (passes.passed ++ passes.rest));
          behind = takes.left ∙ ap Some nothing;
          size = omega (arith, length-append passes.passed passes.rest, passes.size, takes.passed, length-raw_line passes.rest);
          are = inr (record {
            ended = takes.last part;
            nothing = refl;
            within = omega (arith, length-append passes.passed passes.rest, passes.size, line_within, length-raw_line passes.rest);
            all = ended.all passes.rest ∙ ap (λ xs. lines ++ xs) (takes.lines ∙ ap (λ xs. raw ∷ lines_of xs) nothing);
          });
        }

    takes_behind : AreEnded passes.passed lines → PassesLines total text new after (lines ++ raw ∷ [])
    takes_behind ended =
        ⊎_elim (λ whole. takes_ended whole ended) (λ part. takes_last (omega (arith, first_lf-le passes.rest)) ended)
        (cases_lt (first_lf passes.rest) (length passes.rest))

    -- the first line of the rest was passed
    pub takes_line : PassesLines total text new after (lines ++ raw ∷ [])
    takes_line =
        ⊎_elim takes_behind (λ (all : AreAll total old passes.passed passes.rest lines). absurd (omega (arith, rest_some, ap length all.nothing))) passes.are

  -- ---- the first lines

  -- The lines are the first ones of the bytes that were taken.
  pub record TakesUpTo : Type 0 where
    pub taken : List ℕ
    pub takes : Consumes (Some text) left taken
    pub within : length taken ≤ total
    pub first : AreFirst total taken left lines

  -- what was passed, and what is held behind it
  pub takes_up_to : old.passed + length old.held ≤ total → TakesUpTo
  takes_up_to within =
      let is = is_left old.held passes.rest left passes.behind in
      record {
        taken = passes.passed ++ old.held;
        takes = consumes [] old.held left passes.rest refl passes.behind;
        within = omega (arith, length-append passes.passed old.held, passes.size);
        first = ⊎_elim (λ (ended : AreEnded passes.passed lines). inl (ended_lines old.held, sym (ended.ended old.held)))
            (λ (all : AreAll total old passes.passed passes.rest lines).
            let none = held_none old.held is.more (sym all.nothing ∙ is.parts) in
            let same : passes.passed ++ old.held ≡ passes.passed = ap (λ xs. passes.passed ++ xs) none.0 ∙ append-nil passes.passed in
            inr (record { at_end = rw is.is none.1; within = rw same all.within }, ([], append-nil lines ∙ sym all.all ∙ ap lines_of (sym same))))
            passes.are;
      }

  -- ---- no more lines

  -- The lines are all of the input, which was taken, and it is shorter than the total.
  pub record TakesAll (after : Option (List ℕ)) : Type 0 where
    pub takes : Consumes (Some text) after passes.passed
    pub is_all : IsAll total passes.passed after
    pub all : lines ≡ lines_of passes.passed

  all_lines : passes.rest ≡ [] → lines ≡ lines_of passes.passed
  all_lines nothing =
      ⊎_elim (λ (ended : AreEnded passes.passed lines). sym (ap lines_of (sym (append-nil passes.passed)) ∙ ended.all [] ∙ append-nil lines))
      (λ (all : AreAll total old passes.passed passes.rest lines). sym all.all) passes.are

  -- the input has ended
  pub takes_all : (new : Lines) (after : Option (List ℕ)) → new.held ≡ [] → old.passed < total
      → TakesNone old new passes.rest (prepend_known new.held after) (Ok None) → TakesAll after
  takes_all new after nothing within takes =
      let none = found_none old.limits passes.rest (answer_found old.limits old.passed passes.rest None takes.answer) in
      let left : prepend_known [] after ≡ Some [] =
      ap (λ held. prepend_known held after) (sym nothing) ∙ takes.part.left
      ∙ ap Some (ap (drop (new.passed - old.passed)) none ∙ drop_none (new.passed - old.passed)) in
      let is = is_left [] [] after left in
      record {
        takes = rw is.is (passes.parts ∙ ap (λ xs. passes.passed ++ xs) (none ∙ is.parts));
        is_all = record { at_end = rw is.is (sym is.parts); within = omega (arith, passes.size) };
        all = all_lines none;
      }

  -- A fault ends the lines, and no LF stands in what was taken behind them.
  pub record EndsAt (new : Lines) (after : Option (List ℕ)) : Type 0 where
    pub taken : List ℕ
    pub takes : Consumes (Some text) after taken
    pub size : length taken ≡ new.passed + length new.held
    pub are : (lines ≡ ended_lines taken) ⊎ AreAll total old passes.passed passes.rest lines

  module _ (new : Lines) (after : Option (List ℕ)) (more : old.passed ≤ new.passed) (no_lf : first_lf new.held ≡ length new.held)
      (part : PassesPart old new passes.rest (prepend_known new.held after)) where
    abbrev size : ℕ
    size = new.passed - old.passed

    abbrev skipped : List ℕ
    skipped = take size passes.rest

    size_within : size ≤ first_lf passes.rest
    size_within = omega (arith, part.part, length-raw_line passes.rest)

    skipped_size : length skipped ≡ size
    skipped_size = omega (arith, length-take size passes.rest, size_within, first_lf-le passes.rest)

    skipped_no_lf : first_lf (skipped ++ new.held) ≡ length (skipped ++ new.held)
    skipped_no_lf = omega (arith, no_lf, first_lf-front skipped new.held (first_lf-take passes.rest size size_within), length-append skipped new.held)

    taken_size : length (passes.passed ++ (skipped ++ new.held)) ≡ new.passed + length new.held
    taken_size =
        omega (arith, length-append passes.passed (skipped ++ new.held), length-append skipped new.held, skipped_size, passes.size)

    behind_ended : AreEnded passes.passed lines → lines ≡ ended_lines (passes.passed ++ (skipped ++ new.held))
    behind_ended ended =
        sym (ended.ended (skipped ++ new.held) ∙ ap (λ xs. lines ++ xs) (ended_lines-none (skipped ++ new.held) skipped_no_lf) ∙ append-nil lines)

    -- what was passed, the part of a line that was skipped, and what is held behind that
    pub ends_at : EndsAt new after
    ends_at = record {
      taken = passes.passed ++ (skipped ++ new.held);
      takes = consumes skipped new.held after (drop size passes.rest) (sym (take-append-drop size passes.rest)) part.left;
      size = taken_size;
      are = ⊎_elim (λ (ended : AreEnded passes.passed lines). inl (behind_ended ended))
          (λ (all : AreAll total old passes.passed passes.rest lines). inr all) passes.are;
    }
