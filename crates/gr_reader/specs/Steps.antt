-- What one line of a file after another hands to a sink of records.
use Rattle.std.specs.Prelude.{◌≡◌, ⊤, ℕ, ◌+◌, ◌≤◌, true, List, [], ◌∷◌, ◌++◌, length, map, All, Option, Some, None, Result, Ok, Err}
use Rattle.std.specs.List.{filter_map}
use Rattle.std.specs.Option.{option_and_then}
use Rattle.gr_reader.specs.declared.fault.FileFault.{FileFault}
use Rattle.gr_reader.specs.declared.fault.FileFault.TheVariants.{Line, Read, OutOfMemory}
use Rattle.gr_reader.specs.declared.fault.LineKind.{LineKind}
use Rattle.gr_reader.specs.declared.records.Begun.{Begun}
use Rattle.gr_reader.specs.Rules.{LineForm, Rules, IsWithinRange, form_of}
use Rattle.gr_reader.specs.Rules.LineForm.{Problem, Record}
use Rattle.gr_reader.specs.Table.{form_kind, lacking}

-- what the problem line says, if it has come
abbrev pub problem_of : {P : Type 0} → Option (Begun P) → Option P
problem_of None = None
problem_of (Some begun) = Some begun.problem

-- how many records have come
abbrev pub come_of : {P : Type 0} → Option (Begun P) → ℕ
come_of None = 0
come_of (Some begun) = begun.come

-- this line is at fault for this reason, unless memory ran out
abbrev pub RefusesAs : Option LineKind → ℕ → FileFault → Type 0
RefusesAs why number (Line kind line) = (why ≡ Some kind) × (line ≡ number)
RefusesAs why number Read = ⊥
RefusesAs why number (OutOfMemory want) = ⊤

module _ {P R : Type 0} (rules : Rules P R) where
  -- a line of this form has no fault, and it says just this
  pub record IsAccepted (problem : Option P) (come : ℕ) (form accepted : LineForm P R) : Type 0 where
    pub form_is : form ≡ accepted
    pub no_fault : form_kind rules problem come form ≡ None

  -- what these texts of lines say that aren't ignored, in order
  abbrev pub said_by : List (List ℕ) → List (LineForm P R)
  said_by texts = filter_map (form_of rules) texts

  -- These forms are those of a problem line in range and of records behind it, which are due and in range.
  pub record IsBegun (forms : List (LineForm P R)) (problem : P) (records : List R) : Type 0 where
    pub said : forms ≡ Problem problem ∷ map Record records
    pub right_size : rules.is_size problem ≡ true
    pub due : length records ≤ rules.count problem
    pub in_range : All (IsWithinRange rules problem) records

  -- whether a file is whole that ends where this has come
  abbrev pub EndsFile : {T : Type 0} → Option (Begun P) → ℕ → Result T FileFault → Type 0
  EndsFile begun number (Ok done) = lacking rules (problem_of begun) (come_of begun) ≡ None
  EndsFile begun number (Err (Line kind line)) = (lacking rules (problem_of begun) (come_of begun) ≡ Some kind) × (line ≡ number)
  EndsFile begun number (Err other) = ⊥

module _ {P R S : Type 0} (rules : Rules P R) (HasTaken : S → S → P → List R → Type 0) where
  -- A sink has taken what these lines say, the problem line and records behind it.
  pub record HasRecords (start now : S) (texts : List (List ℕ)) (so_far : Begun P) : Type 0 where
    pub records : List R
    pub begun : IsBegun rules (said_by rules texts) so_far.problem records
    pub counted : so_far.come ≡ length records
    pub taken : HasTaken start now so_far.problem records

  -- the same, also where no problem line has come
  abbrev pub HasLines : S → S → List (List ℕ) → Option (Begun P) → Type 0
  HasLines start now texts None = (said_by rules texts ≡ []) × (now ≡ start)
  HasLines start now texts (Some begun) = HasRecords start now texts begun

  -- A sink may take a record, if one is due.
  pub record AwaitsRecord (now : S) (begun : Begun P) : Type 0 where
    pub before : S
    pub records : List R
    pub taken : HasTaken before now begun.problem records
    pub counted : begun.come ≡ length records
    pub right_size : rules.is_size begun.problem ≡ true

  -- a sink may take what the next line says
  abbrev pub Awaits : (S → Type 0) → S → Option (Begun P) → Type 0
  Awaits IsReady now None = IsReady now
  Awaits IsReady now (Some begun) = AwaitsRecord now begun

  -- A file was begun.
  pub record BeginsFile (old new : S) (form : LineForm P R) (next : Begun P) : Type 0 where
    pub accepted : IsAccepted rules None 0 form (Problem next.problem)
    pub none : next.come ≡ 0
    pub taken : HasTaken old new next.problem []

  -- what the answer to the problem line says
  abbrev pub ProblemTaken : S → S → LineForm P R → ℕ → Result (Begun P) FileFault → Type 0
  ProblemTaken old new form number (Ok next) = BeginsFile old new form next
  ProblemTaken old new form number (Err fault) = RefusesAs (form_kind rules None 0 form) number fault

  -- One more record was taken.
  pub record TakesRecord (begun : Begun P) (old new : S) (form : LineForm P R) (next : Begun P) : Type 0 where
    pub one : R
    pub accepted : IsAccepted rules (Some begun.problem) begun.come form (Record one)
    pub problem : next.problem ≡ begun.problem
    pub more : next.come ≡ begun.come + 1
    pub taken : (before : S) (records : List R) → HasTaken before old begun.problem records
        → HasTaken before new begun.problem (records ++ one ∷ [])

  -- what the answer to a record says
  abbrev pub RecordTaken : Begun P → S → S → LineForm P R → ℕ → Result (Begun P) FileFault → Type 0
  RecordTaken begun old new form number (Ok next) = TakesRecord begun old new form next
  RecordTaken begun old new form number (Err fault) = RefusesAs (form_kind rules (Some begun.problem) begun.come form) number fault

  -- what an accepted line of this form did
  abbrev pub FormTaken : Option (Begun P) → S → S → Option (LineForm P R) → Option (Begun P) → Type 0
  FormTaken begun old new None next = (next ≡ begun) × (new ≡ old)
  FormTaken begun old new (Some form) None = ⊥
  FormTaken None old new (Some form) (Some next) = BeginsFile old new form next
  FormTaken (Some begun) old new (Some form) (Some next) = TakesRecord begun old new form next

  -- what the answer to a line says
  abbrev pub LineTaken : Option (Begun P) → S → S → List ℕ → ℕ → Result (Option (Begun P)) FileFault → Type 0
  LineTaken begun old new text number (Ok next) = FormTaken begun old new (form_of rules text) next
  LineTaken begun old new text number (Err fault) =
      RefusesAs (option_and_then (form_kind rules (problem_of begun) (come_of begun)) (form_of rules text)) number fault
