-- What the answers of a reader of a file of records say.
use Rattle.std.specs.Prelude.{◌≡◌, ℕ, ⊤, IfSome, Bool, true, false, List, length, Option, Result, Ok, Err}
use Rattle.line_text.specs.declared.limits.LineLimits.{LineLimits}
use Rattle.gr_reader.specs.declared.fault.FileFault.{FileFault}
use Rattle.gr_reader.specs.declared.fault.FileFault.TheVariants.{Line, Read, OutOfMemory}
use Rattle.gr_reader.specs.declared.fault.LineKind.{LineKind}
use Rattle.gr_reader.specs.declared.fault.LineKind.TheVariants.{WeightRange}
use Rattle.gr_reader.specs.Rules.{Rules}
use Rattle.gr_reader.specs.Files.{IsFile, FirstFault}

-- the test that this answer says that the source failed
abbrev pub file_failed : {T : Type 0} → Result T FileFault → Bool
file_failed (Err Read) = true
file_failed other = false

-- this value is answered, unless the source fails or memory runs out
abbrev pub Gives : {A : Type 0} → A → Result A FileFault → Type 0
Gives value (Ok answer) = answer ≡ value
Gives value (Err (Line kind line)) = ⊥
Gives value (Err Read) = ⊤
Gives value (Err (OutOfMemory want)) = ⊤

-- this fault is answered, unless the source fails or memory runs out
abbrev pub Refuses : {A : Type 0} → LineKind → ℕ → Result A FileFault → Type 0
Refuses kind line (Ok answer) = ⊥
Refuses kind line (Err (Line other at)) = (other ≡ kind) × (at ≡ line)
Refuses kind line (Err Read) = ⊤
Refuses kind line (Err (OutOfMemory want)) = ⊤

module _ {P R : Type 0} (rules : Rules P R) where
  -- A reader may tell this fault: it takes no memory, and a weight is at fault only where one can be out of range.
  abbrev pub MayTell : FileFault → Type 0
  MayTell (Line WeightRange line) = (r : R) × (rules.has_weight r ≡ false)
  MayTell (Line kind line) = ⊤
  MayTell Read = ⊤
  MayTell (OutOfMemory want) = ⊥

  -- the same of a call that takes memory
  abbrev pub MayAnswer : FileFault → Type 0
  MayAnswer (OutOfMemory want) = ⊤
  MayAnswer fault = MayTell fault

  -- the fault of a line is the first of the text
  abbrev pub IsFirstFault : LineLimits → List ℕ → FileFault → Type 0
  IsFirstFault limits bytes (Line kind line) = FirstFault rules limits bytes kind line
  IsFirstFault limits bytes Read = ⊤
  IsFirstFault limits bytes (OutOfMemory want) = ⊤

  -- A whole file was taken, which is that of the text where the text is known.
  pub record TakesWhole (limits : LineLimits) (text : Option (List ℕ)) (HasTaken : P → List R → Type 0) : Type 0 where
    pub problem : P
    pub records : List R
    pub counted : length records ≡ rules.count problem
    pub taken : HasTaken problem records
    pub is_file : IfSome text (λ bytes. IsFile rules limits bytes problem records)

  -- A whole file was taken, or the fault is the text's.
  abbrev pub ReadsWhole : {T : Type 0} → LineLimits → Option (List ℕ) → (P → List R → Type 0) → Result T FileFault
      → Type 0
  ReadsWhole limits text HasTaken (Ok done) = TakesWhole limits text HasTaken
  ReadsWhole limits text HasTaken (Err fault) = IfSome text (λ bytes. IsFirstFault limits bytes fault)

  -- A value is answered only for its text, and the fault of a line only where it is the first.
  abbrev pub IsSound : {A : Type 0} → (A → Type 0) → LineLimits → List ℕ → Result A FileFault → Type 0
  IsSound IsOf limits bytes (Ok value) = IsOf value
  IsSound IsOf limits bytes (Err fault) = IsFirstFault limits bytes fault

  -- Where the text is of a value, that is answered, and otherwise its first fault.
  pub record IsComplete
      {A : Type 0} (IsOf : A → Type 0) (limits : LineLimits) (bytes : List ℕ) (result : Result A FileFault)
      : Type 0 where
    pub accepts : (value : A) → IsOf value → Gives value result
    pub refuses : (kind : LineKind) (line : ℕ) → FirstFault rules limits bytes kind line → Refuses kind line result
