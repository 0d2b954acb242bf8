-- What sinks of records have taken.
use Rattle.std.specs.Prelude.{◌≡◌, ℕ, ◌+◌, ◌<◌, ◌≤◌, true, IfSome, List, [], ◌∷◌, ◌++◌, length, Option, Some, Result, Ok, Err}
use Rattle.road_network.specs.Limits.{max_arcs}
use Rattle.arc_graph.specs.Files.{ArcFile}
use Rattle.arc_graph.specs.Joiner.{Joiner}
use Rattle.arc_graph.specs.JoinerHolds.{JoinerHolds}
use Rattle.gr_reader.specs.declared.fault.FileFault.{FileFault}
use Rattle.line_text.specs.declared.limits.LineLimits.{LineLimits}
use Rattle.gr_reader.specs.Rules.{Rules, IsWithinRange}
use Rattle.gr_reader.specs.Grammar.{IsGr, weights}
use Rattle.gr_reader.specs.Reader.{IsFirstFault}

-- A file was begun, and this record of it is still to come and in range.
pub record IsDue
    {S P R : Type 0} (rules : Rules P R) (HasTaken : S → S → P → List R → Type 0) (now : S) (r : R)
    : Type 0 where
  pub before : S
  pub problem : P
  pub records : List R
  pub taken : HasTaken before now problem records
  pub right_size : rules.is_size problem ≡ true
  pub due : length records < rules.count problem
  pub in_range : IsWithinRange rules problem r

-- a joiner takes one more file
pub record JoinerIsReady (joiner : Joiner) : Type 0 where
  pub fewer_than_four : joiner.begun < 4
  pub whole : joiner.come ≡ joiner.due_arcs

-- The joiner stands for one file more than before, of which this has come.
pub record JoinerHasTaken (before now : Joiner) (arcs : ℕ) (file : ArcFile) : Type 0 where
  pub begun : now.begun ≡ before.begun + 1
  pub nodes : now.due_nodes ≡ file.nodes
  pub due : now.due_arcs ≡ arcs
  pub come : now.come ≡ length file.arcs
  pub stands : (files : List ArcFile) → JoinerHolds before files → JoinerHolds now (files ++ file ∷ [])

-- a sink of one file has this of it
pub record OneHasTaken (one : Option ArcFile) (arcs : ℕ) (file : ArcFile) : Type 0 where
  pub is : one ≡ Some file
  pub most : arcs ≤ max_arcs

-- A whole weight file was taken, which is that of the text where the text is known.
pub record TakesFile (limits : LineLimits) (text : Option (List ℕ)) (HasTaken : ℕ → ArcFile → Type 0) : Type 0 where
  pub file : ArcFile
  pub taken : HasTaken (length file.arcs) file
  pub is_gr : IfSome text (λ bytes. IsGr limits bytes file.nodes file.arcs)

-- A whole weight file was taken, or the fault is the text's.
abbrev pub ReadsInto : {T : Type 0} → LineLimits → Option (List ℕ) → (ℕ → ArcFile → Type 0) → Result T FileFault
    → Type 0
ReadsInto limits text HasTaken (Ok done) = TakesFile limits text HasTaken
ReadsInto limits text HasTaken (Err fault) = IfSome text (λ bytes. IsFirstFault weights limits bytes fault)
