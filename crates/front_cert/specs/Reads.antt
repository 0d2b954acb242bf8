-- What the reader of a certificate's text does at each step.
use Rattle.std.specs.Prelude.{◌≡◌, ⊤, ℕ, ◌≤◌, Bool, true, false, List, length, map, All, AllPairs}
use Rattle.std.specs.Prelude.{Option, Some, None, Result, Ok, Err}
use Rattle.road_network.specs.Network.{Network, IsNode}
use Rattle.line_text.specs.Fields.{fields_of}
use Rattle.line_text.specs.Reading.{Lines}
use Rattle.line_text.specs.declared.limits.LineFault.{LineFault}
use Rattle.line_text.specs.declared.limits.LineFault.TheVariants as lines
use Rattle.cert_rules.specs.Certificates.{Certificate, IsLine, max_labels}
use Rattle.cert_rules.specs.Rules.{HasNoFailure, IsFirstFailure}
use Rattle.front_cert.specs.declared.fault.CertFault.{CertFault}
use Rattle.front_cert.specs.declared.fault.CertFault.TheVariants.{Line, Rule, Read, OutOfMemory}
use Rattle.front_cert.specs.declared.draft.Draft.{Draft as KeptDraft}
use Rattle.front_cert.specs.Listing.{Listing, line_of}
use Rattle.front_cert.specs.Lookup.{Precedes}
use Rattle.front_cert.specs.Text.{Draft, State, or_fault, read_rest, read_text, whole, with_line}

-- a draft as it is kept
abbrev pub draft_of : KeptDraft → Draft
draft_of d = record {
  cert = record { start = d.start.0; target = d.target.0; labels = map line_of d.labels.items };
  due = d.due;
}

-- what every draft keeps
pub record IsDraft (net : Network) (d : KeptDraft) : Type 0 where
  pub start : IsNode net.nodes d.start.0
  pub target : IsNode net.nodes d.target.0
  pub few : d.due ≤ max_labels
  pub within : length d.labels.items ≤ d.due
  pub lines : All (λ l. IsLine net (line_of l)) d.labels.items
  pub ascending : AllPairs Precedes d.labels.items

-- the state behind the current line, with this draft
abbrev pub at : Lines → Option Draft → State
at lines draft = record { draft = draft; number = lines.number; passed = lines.passed }

-- what is read from the current line on, where this draft stands before it
abbrev pub from_line : Network → Lines → Option Draft → List ℕ → Result Certificate ℕ
from_line net lines draft more =
    or_fault lines.number (with_line net draft (fields_of lines.text)) (λ next. read_rest net (at lines (Some next)) more)

-- The current line is the first of the rest.
pub record HasLine (net : Network) (old new : Lines) (rest : List ℕ) (after : Option (List ℕ)) : Type 0 where
  pub more : List ℕ
  pub left : after ≡ Some more
  pub reads : (draft : Option Draft) → read_rest net (at old draft) rest ≡ from_line net new draft more

-- what the answer to the next line says of the rest
abbrev pub NextTells : Network → Lines → Lines → List ℕ → Option (List ℕ) → Result Bool CertFault → Type 0
NextTells net old new rest after (Ok true) = HasLine net old new rest after
NextTells net old new rest after (Ok false) = (draft : Option Draft) → read_rest net (at old draft) rest ≡ whole draft new.number
NextTells net old new rest after (Err (Line line)) = (draft : Option Draft) → read_rest net (at old draft) rest ≡ Err line
NextTells net old new rest after (Err (Rule rule label)) = ⊥
NextTells net old new rest after (Err Read) = ⊤
NextTells net old new rest after (Err (OutOfMemory want)) = ⊤

-- the test that this answer says that the source failed
abbrev pub cert_failed : {T : Type 0} → Result T CertFault → Bool
cert_failed (Err Read) = true
cert_failed other = false

-- what was read is the certificate that the text is, or its first faulty line
abbrev pub ReadsText : Network → List ℕ → Result Listing CertFault → Type 0
ReadsText net bytes (Ok listing) = read_text net bytes ≡ Ok listing.cert
ReadsText net bytes (Err (Line line)) = read_text net bytes ≡ Err line
ReadsText net bytes (Err (Rule rule label)) = ⊥
ReadsText net bytes (Err Read) = ⊤
ReadsText net bytes (Err (OutOfMemory want)) = ⊤

-- a fault of the reader of lines, at this line
abbrev pub known_as : LineFault → ℕ → CertFault
known_as lines.TooLong line = Line line
known_as lines.Total line = Line line
known_as lines.Read line = Read

-- The first line was accepted, and what is left is read with its draft.
pub record HasHeading (net : Network) (old new : Lines) (rest : List ℕ) (after : Option (List ℕ)) (draft : KeptDraft) : Type 0 where
  pub more : List ℕ
  pub left : after ≡ Some more
  pub reads : read_rest net (at old None) rest ≡ read_rest net (at new (Some (draft_of draft))) more

-- what the answer to the first line says of the rest
abbrev pub BeginTells : Network → Lines → Lines → List ℕ → Option (List ℕ) → Result KeptDraft CertFault → Type 0
BeginTells net old new rest after (Ok draft) = HasHeading net old new rest after draft
BeginTells net old new rest after (Err (Line line)) = read_rest net (at old None) rest ≡ Err line
BeginTells net old new rest after (Err (Rule rule label)) = ⊥
BeginTells net old new rest after (Err Read) = ⊤
BeginTells net old new rest after (Err (OutOfMemory want)) = ⊤

-- what a check answers for a text: its first faulty line, else the first failure, else the certificate
abbrev pub ChecksText : Network → List ℕ → Result Listing CertFault → Type 0
ChecksText net bytes (Ok listing) = (read_text net bytes ≡ Ok listing.cert) × HasNoFailure net listing.cert
ChecksText net bytes (Err (Line line)) = read_text net bytes ≡ Err line
ChecksText net bytes (Err (Rule rule label)) =
    (cert : Certificate) × (read_text net bytes ≡ Ok cert) × IsFirstFailure net cert rule label
ChecksText net bytes (Err Read) = ⊤
ChecksText net bytes (Err (OutOfMemory want)) = ⊤
