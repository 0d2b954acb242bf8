-- What a source or a folder shows to contracts, and what its calls do to it.
use Rattle.std.specs.Prelude.{◌≡◌, ℕ, List, Bool, Option, Some, Result, is_err, is_some, IfSome, OnOk, OnErr}
use Rattle.std.specs.Io.{ReadsAtMost}
use Rattle.std.specs.Io.KnownBytes.{ReadConsumes, IsAtEnd}
use Rattle.route_io.specs.declared.fault.Failed.{Failed}
use Rattle.route_io.specs.Causes.{IsCounted}
use Rattle.route_io.specs.Files.{FileMap, Opens}

-- what a source has left, its files, the file that was asked for last, and its faults
pub record SourceState : Type 0 where
  -- the bytes that reads will give from here on, where the source tells them
  pub left : Option (List ℕ)
  -- the files by their names, where the source is a folder that tells them
  pub files : Option FileMap
  -- the name that was selected last, where the source is a folder that was asked for one
  pub selected : Option (List ℕ)
  -- how often the source has failed: a count that never falls
  pub faults : ℕ

-- What reads did to a source but for its bytes: a failure was counted, nothing else was, and the files and the name that
-- was selected last stay.
pub record ReadsFrom (old new : SourceState) (failed : Bool) : Type 0 where
  pub cause : IsCounted failed old.faults new.faults
  pub files : new.files ≡ old.files
  pub selected : new.selected ≡ old.selected

-- One read into a buffer: it took bytes from the front of what is left, and none only at the end of input.
pub record Reads (old new : SourceState) (result : Result ℕ Failed) (buf : List ℕ) : Type 0 where
  pub within : ReadsAtMost result buf
  pub bytes : ReadConsumes old.left new.left result buf
  pub source : ReadsFrom old new (is_err result)

-- A file was selected: all its bytes are left, or nothing is where the selection failed.
pub record Selects {T : Type 0} (old new : SourceState) (name : List ℕ) (result : Result T Failed) : Type 0 where
  pub opened : OnOk result (Opens old.files name new.left)
  pub closed : OnErr result (IsAtEnd new.left)
  pub selected : new.selected ≡ Some name
  pub cause : IsCounted (is_err result) old.faults new.faults
  pub files : new.files ≡ old.files

-- What selections and reads did to a folder. Where one failed, that was counted, and it was at the file of this name, which
-- was selected last; else nothing was counted. The files stay.
pub record ReadsFiles (old new : SourceState) (failed : Option (List ℕ)) : Type 0 where
  pub cause : IsCounted (is_some failed) old.faults new.faults
  pub files : new.files ≡ old.files
  pub named : IfSome failed (λ name. new.selected ≡ Some name)
