-- The next line of a feed.
use Rattle.std.proofs.Common.{◌≡◌, ℕ, ◌+◌, ◌<◌, Bool, true, false, List, [], ◌∷◌, ◌++◌, Option, Some, None, IfSome, IsSomeAnd, Result, Ok, Err, length, refl, ap, subst, ◌∙◌, arith, length-drop}
use Rattle.std.specs.Io.KnownBytes.{prepend_known}
use Rattle.route_io.specs.Sources.{SourceState}
use Rattle.line_text.specs.declared.limits.LineFault.{LineFault}
use Rattle.line_text.specs.declared.limits.LineFault.TheVariants as fault
use Rattle.line_text.specs.declared.limits.LineLimits.{LineLimits}
use Rattle.line_text.specs.Lines.{first_lf, after_line, line_size}
use Rattle.line_text.specs.Marks.{answer_of, first_fault, line_answer}
use Rattle.line_text.specs.Reading.{Advances, InLimits, KnowsEnd, Lines, Tells, rest_of}
use Rattle.line_text.proofs.AdvancesLemmas.{rest_told}
use Rattle.line_text.proofs.LineLemmas.{first_lf-le, length-raw_line}
use Rattle.epoch_follow.specs.declared.feed_end.FeedEnd.{FeedEnd}
use Rattle.epoch_follow.specs.Reads.{NextTells, ReadsOn}
use Rattle.epoch_follow.specs.Runs.{end_by}

-- the bytes of the first line and those behind it are all
pub length-rest : (rest : List ℕ) → length rest ≡ line_size rest + length (after_line rest)
length-rest rest = omega (arith, length-raw_line rest, first_lf-le rest, length-drop (first_lf rest + 1) rest)

none_broken : (fault : Option LineFault) → line_answer fault ≡ Ok true → fault ≡ None
none_broken None e = refl
none_broken (Some fault) e = absurd cc

-- a line that is taken breaks no limit
pub unbroken : (limits : LineLimits) (passed : ℕ) (rest : List ℕ) → answer_of limits passed rest ≡ Ok true → first_fault limits passed rest ≡ None
unbroken limits passed [] e = absurd cc
unbroken limits passed (byte ∷ rest) e = none_broken (first_fault limits passed (byte ∷ rest)) e

ended_by : (fault : Option LineFault) → line_answer fault ≡ Ok false → ⊥
ended_by None e = absurd cc
ended_by (Some fault) e = absurd cc

-- the input ends where nothing is left
none_left : (limits : LineLimits) (passed : ℕ) (rest : List ℕ) → answer_of limits passed rest ≡ Ok false → rest ≡ []
none_left limits passed [] e = refl
none_left limits passed (byte ∷ rest) e = absurd (ended_by (first_fault limits passed (byte ∷ rest)) e)

broken_by : (fault : Option LineFault) (by : LineFault) → line_answer fault ≡ Err by → fault ≡ Some by
broken_by None by e = absurd cc
broken_by (Some fault) by e = cc

-- a line breaks a limit where it is refused
broken : (limits : LineLimits) (passed : ℕ) (rest : List ℕ) (by : LineFault) → answer_of limits passed rest ≡ Err by
    → (0 < length rest) × (first_fault limits passed rest ≡ Some by)
broken limits passed [] by e = absurd cc
broken limits passed (byte ∷ rest) by e = (omega arith, broken_by (first_fault limits passed (byte ∷ rest)) by e)

-- The source tells what is left, and that stands behind what the reader holds.
pub record IsLeft (held rest : List ℕ) (left : Option (List ℕ)) : Type 0 where
  pub more : List ℕ
  pub is : left ≡ Some more
  pub parts : rest ≡ held ++ more

pub is_left : (held rest : List ℕ) (left : Option (List ℕ)) → prepend_known held left ≡ Some rest → IsLeft held rest left
is_left held rest None e = absurd cc
is_left held rest (Some more) e = record { more = more; is = refl; parts = cc }

-- what the next line's answer is to a follower, at this line
abbrev pub answer_at : ℕ → Result Bool LineFault → Result Bool FeedEnd
answer_at line (Ok more) = Ok more
answer_at line (Err fault) = Err (end_by fault line)

module _ (old new : Lines) (before after : SourceState) (knows : KnowsEnd old before) where
  -- what is told of the rest, where the source tells it
  told : (P : List ℕ → Option (List ℕ) → Type 0) → KnowsEnd new after → (left : Option (List ℕ)) → before.left ≡ left → (later : Option (List ℕ))
      → after.left ≡ later → IfSome left (λ all. IsSomeAnd later (λ more. new.passed + length new.held + length more ≡ old.passed + length old.held + length all))
      → IfSome (rest_of old before) (λ rest. P rest (rest_of new after)) → IfSome (prepend_known old.held left) (λ rest. P rest (prepend_known new.held later))
  told P knows_new None was later is loses all = tt
  told P knows_new (Some xs) was None is loses all = absurd loses
  told P knows_new (Some xs) was (Some ys) is loses all =
      subst (λ r. P (old.held ++ xs) r) (rest_told new after ys knows_new is ∙ ap (prepend_known new.held) is)
      (subst (λ r. IfSome r (λ rest. P rest (rest_of new after))) (rest_told old before xs knows was ∙ ap (prepend_known old.held) was) all)

  module _ (limits : InLimits new) where
    tells : (result : Result Bool LineFault) → Advances old new before after result → (rest : List ℕ) (left : Option (List ℕ)) → Tells old new rest left result
        → NextTells old new rest left (answer_at (old.number + 1) result)
    tells (Ok true) advances rest left line = line
    tells (Ok false) advances rest left keeps =
        (none_left old.limits old.passed rest keeps.answer, record { passed = advances.counts.0.passed; left = keeps.left })
    tells (Err fault.Read) advances rest left same = record {
      part = advances.fails_within refl;
      more = advances.ends.fails_before refl;
      leaves = record { passed = advances.counts.passed; left = same };
    }
    tells (Err fault.TooLong) advances rest left keeps =
        let why = broken old.limits old.passed rest fault.TooLong keeps.answer in record {
          fault = fault.TooLong;
          some = why.0;
          broken = why.1;
          known = refl;
          leaves = record { passed = advances.counts.passed; left = keeps.left };
        }
    tells (Err fault.Total) advances rest left keeps =
        let why = broken old.limits old.passed rest fault.Total keeps.answer in record {
          fault = fault.Total;
          some = why.0;
          broken = why.1;
          known = refl;
          leaves = record { passed = advances.counts.passed; left = keeps.left };
        }

    -- what a call does to a reader that keeps no fault
    pub reads_on : (result : Result Bool LineFault) → Advances old new before after result
        → ReadsOn old new before after (answer_at (old.number + 1) result)
    reads_on result advances = record {
      limits = advances.limits;
      in_limits = limits;
      knows_end = advances.ends.knows_end knows;
      tells = told (λ rest left. NextTells old new rest left (answer_at (old.number + 1) result)) (advances.ends.knows_end knows)
          before.left refl after.left refl advances.loses_none
          (each (rest_of old before) advances.lines);
    } where
      each : (told : Option (List ℕ)) → IfSome told (λ rest. Tells old new rest (rest_of new after) result)
          → IfSome told (λ rest. NextTells old new rest (rest_of new after) (answer_at (old.number + 1) result))
      each None lines = tt
      each (Some rest) lines = tells result advances rest (rest_of new after) lines
