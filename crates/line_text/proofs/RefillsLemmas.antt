-- One read for a reader.
use Rattle.std.proofs.Common.{◌≡◌, ℕ, true, false, List, [], ◌++◌, Option, Some, None, Result, Ok, Err, length, Bool, refl, sym, ap, ◌∙◌, arith, length-append}
use Rattle.std.specs.Io.KnownBytes.{Consumes, IsAtEnd}
use Rattle.std.proofs.KnownBytes.{Consumes-nil}
use Rattle.std.proofs.lemmas.List.{append-nil, nil_from_length}
use Rattle.route_io.specs.declared.fault.Failed.{Failed}
use Rattle.route_io.specs.Sources.{SourceState}
use Rattle.line_text.specs.Pieces.{Fills, Refilled, Refills, is_end}
use Rattle.line_text.specs.Reading.{KnowsEnd, Lines, left_for}

-- nothing was taken where what is held stayed
none_more : (old new more : List ℕ) → new ≡ old ++ more → new ≡ old → more ≡ []
none_more old new more grown same = nil_from_length more (omega (arith, length-append old more, ap length grown, ap length same))

-- what a source that is at its end has left stays nothing
consumes_end : (before after : Option (List ℕ)) (more : List ℕ) → Consumes before after more → IsAtEnd after → more ≡ [] → Consumes before (Some []) more
consumes_end None after more taken end none = tt
consumes_end (Some xs) None more taken end none = absurd taken
consumes_end (Some xs) (Some ys) more taken end none = taken ∙ ap (λ rest. more ++ rest) end

module _ (old new : Lines) (before after : SourceState) where
  by_answer : (result : Result Bool Failed) → old.ended ≡ false → new.ended ≡ is_end result → Fills old.held new.held before after result
      → (more : List ℕ) → new.held ≡ old.held ++ more → Consumes before.left after.left more
      → Refilled old new more result × Consumes (left_for old before) (left_for new after) more × (KnowsEnd old before → KnowsEnd new after)
  by_answer (Ok true) goes_on ended fills more grown taken =
      rw (goes_on, ended) ((omega (arith, ap length grown, fills.answer, length-append old.held more), refl), taken, λ knows e. absurd cc)
  by_answer (Ok false) goes_on ended fills more grown taken =
      let none = none_more old.held new.held more grown fills.answer.0 in
      rw (goes_on, ended) ((none, refl), consumes_end before.left after.left more taken fills.answer.1 none, λ knows e. fills.answer.1)
  by_answer (Err failed) goes_on ended fills more grown taken =
      rw (goes_on, ended) ((none_more old.held new.held more grown fills.answer, refl, refl), taken, λ knows e. absurd cc)

  -- one read of the source, whose end is remembered
  pub refills_by : (result : Result Bool Failed) → old.ended ≡ false → new.ended ≡ is_end result → Fills old.held new.held before after result
      → Refills old new before after result
  refills_by result goes_on ended fills =
      let answer = by_answer result goes_on ended fills fills.more fills.grown fills.taken in
      record {
        more = fills.more;
        grown = fills.grown;
        taken = fills.taken;
        known = answer.1;
        answer = answer.0;
        knows_end = answer.2;
        source = fills.source;
      }

-- behind the end of input nothing is read
pub refills_none : (old : Lines) (source : SourceState) → old.ended ≡ true → Refills old old source source (Ok false)
refills_none old source end = record {
  more = [];
  grown = sym (append-nil old.held);
  taken = Consumes-nil source.left;
  known = Consumes-nil (left_for old source);
  answer = (refl, end);
  knows_end = λ knows. knows;
  source = record { cause = refl; files = refl; selected = refl };
}
