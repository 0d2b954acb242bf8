-- What a run does with its weight files: it reads each in order, joins them, and goes on over the network that they
-- say. What is said of a file's bytes holds where the folder tells its files.
use Rattle.std.specs.Prelude.{◌≡◌, ℕ, ◌^◌, List, [], ◌∷◌, ◌++◌, Option, Some, IfSome}
use Rattle.std.specs.List.{AllZip}
use Rattle.route_io.specs.Files.{FileMap}
use Rattle.road_network.specs.Network.{Network}
use Rattle.arc_graph.specs.declared.join.Disagreement.{Disagreement}
use Rattle.arc_graph.specs.Files.{ArcFile}
use Rattle.arc_graph.specs.Agreement.{Agree, HasFault, joined}
use Rattle.line_text.specs.Reading.{max_line}
use Rattle.gr_reader.specs.Grammar.{IsGr, GrFault}
use Rattle.line_text.specs.declared.limits.LineLimits.{LineLimits}
use Rattle.gr_reader.specs.declared.fault.LineKind.{LineKind}
use Rattle.still_commands.specs.Outcome.{Outcome, folder_failed, bad_file, bad_files, no_memory}

-- the most bytes of a file
abbrev pub max_file_size : ℕ
max_file_size = 2 ^ 29

-- the limits of each file that is read
abbrev pub reading_limits : LineLimits
reading_limits = record { line = max_line; total = max_file_size }

-- there is a file of this name, and this holds of its bytes
pub record HasFile (file_of : FileMap) (name : List ℕ) (Holds : List ℕ → Type 0) : Type 0 where
  pub bytes : List ℕ
  pub found : file_of name ≡ Some bytes
  pub holds : Holds bytes

-- the same, where the folder tells its files
abbrev pub Tells : Option FileMap → List ℕ → (List ℕ → Type 0) → Type 0
Tells files name Holds = IfSome files (λ file_of. HasFile file_of name Holds)

-- the file of this name says this
abbrev pub Says : Option FileMap → List ℕ → ArcFile → Type 0
Says files name contents = Tells files name (λ bytes. IsGr reading_limits bytes contents.nodes contents.arcs)

-- the first fault of the file of this name
abbrev pub HasFirstFault : Option FileMap → List ℕ → ℕ → LineKind → Type 0
HasFirstFault files name line kind = Tells files name (λ bytes. GrFault reading_limits bytes kind line)

-- How the reading of the file of this name ends a run. `Fault` says which is its first faulty line, and `bad` how that
-- ends it.
pub data ReadingStop (Fault : ℕ → LineKind → Type 0) (bad : ℕ → LineKind → Outcome) (name : List ℕ) : Outcome → Type 0 where
  -- the folder failed
  failed : ReadingStop Fault bad name (folder_failed name)
  -- the file isn't as its format says
  faulty : {line : ℕ} {kind : LineKind} → Fault line kind → ReadingStop Fault bad name (bad line kind)
  -- memory ran out
  starved : ReadingStop Fault bad name no_memory

-- the same of a weight file
abbrev pub FileStop : Option FileMap → List ℕ → Outcome → Type 0
FileStop files name = ReadingStop (HasFirstFault files name) (bad_file name) name

-- A file comes after others that were all read.
pub record ComesAfterRead (files : Option FileMap) (names : List (List ℕ)) (name : List ℕ) : Type 0 where
  pub before : List (List ℕ)
  pub after : List (List ℕ)
  pub place : names ≡ before ++ name ∷ after
  pub contents : List ArcFile
  pub read : AllZip (Says files) before contents

-- All files were read, but they don't agree.
pub record Disagree (files : Option FileMap) (names : List (List ℕ)) (way : Disagreement) : Type 0 where
  pub contents : List ArcFile
  pub read : AllZip (Says files) names contents
  pub fault_is : HasFault contents way

-- All files were read, and they say this network together.
pub record ReadAs (files : Option FileMap) (names : List (List ℕ)) (net : Network) : Type 0 where
  pub contents : List ArcFile
  pub read : AllZip (Says files) names contents
  pub agree : Agree contents
  pub network : net ≡ joined contents

-- how the weight files end a run
pub data FilesStop (files : Option FileMap) (names : List (List ℕ)) : Outcome → Type 0 where
  -- the first that isn't read ends it
  at_file : {outcome : Outcome} (name : List ℕ) → ComesAfterRead files names name → FileStop files name outcome
      → FilesStop files names outcome
  -- all were read, but they don't agree
  disagree : {way : Disagreement} → Disagree files names way → FilesStop files names (bad_files way)
  -- memory ran out in the joining
  unjoined : FilesStop files names no_memory

-- How a run ends that reads weight files and then goes on over the network that they say, and what it sends to `out`.
-- `After` says how it then ends, and what it sends.
pub data FilesEnd (After : Network → Outcome → List ℕ → Type 0) (files : Option FileMap) (names : List (List ℕ))
    : Outcome → List ℕ → Type 0 where
  -- the weight files end it, and nothing is sent
  stops : {outcome : Outcome} → FilesStop files names outcome → FilesEnd After files names outcome []
  -- all were read, and it goes on
  goes_on : {outcome : Outcome} {text : List ℕ} (net : Network) → ReadAs files names net → After net outcome text
      → FilesEnd After files names outcome text
