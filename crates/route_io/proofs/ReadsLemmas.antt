-- Reads from a source one after another, and selections before them.
use Rattle.std.proofs.Common.{ℕ, Bool, true, false, List, Option, Some, None, Ok, cond, subst, ◌∙◌}
use Rattle.std.specs.Prelude.{is_some}
use Rattle.route_io.specs.Causes.{IsCounted}
use Rattle.route_io.specs.Sources.{SourceState, ReadsFrom, ReadsFiles, Selects}

-- reads without a failure, and then others
pub ReadsFrom-then : (old mid new : SourceState) (failed : Bool) → ReadsFrom old mid false → ReadsFrom mid new failed → ReadsFrom old new failed
ReadsFrom-then old mid new failed first second = record {
  cause = subst (λ n. IsCounted failed n new.faults) first.cause second.cause;
  files = second.files ∙ first.files;
  selected = second.selected ∙ first.selected;
}

-- a file was selected and then read
pub selected_then : {T : Type 0} (old mid new : SourceState) (name : List ℕ) (value : T) (failed : Bool) → Selects old mid name (Ok value)
    → ReadsFrom mid new failed → ReadsFiles old new (cond failed (Some name) None)
selected_then old mid new name value true selects reads = record {
  cause = subst (λ n. IsCounted true n new.faults) selects.cause reads.cause;
  files = reads.files ∙ selects.files;
  named = reads.selected ∙ selects.selected;
}
selected_then old mid new name value false selects reads = record { cause = reads.cause ∙ selects.cause; files = reads.files ∙ selects.files; named = tt }

-- selections and reads without a failure, and then others
pub ReadsFiles-then : (old mid new : SourceState) (failed : Option (List ℕ)) → ReadsFiles old mid None → ReadsFiles mid new failed → ReadsFiles old new failed
ReadsFiles-then old mid new failed first second = record {
  cause = subst (λ n. IsCounted (is_some failed) n new.faults) first.cause second.cause;
  files = second.files ∙ first.files;
  named = second.named;
}
