-- How contracts see the forms of a source, a sink and a folder.
use Rattle.std.specs.Prelude.{ℕ, ◌-◌, ◌≤◌, Bool, List, [], Option, Some, None, length, min}
use Rattle.route_io.specs.Calls.{CallList}
use Rattle.route_io.specs.Files.{NamedFile, first_of_name}
use Rattle.route_io.specs.Sinks.{SinkState}
use Rattle.route_io.specs.Sources.{SourceState}

-- a source in memory: the bytes that it has left, the most that a read gives, and its calls
pub record MemorySource : Type 0 where
  pub left : List ℕ
  pub piece : ℕ
  pub calls : CallList

-- what it shows as a source
abbrev pub memory_source_state : MemorySource → SourceState
memory_source_state source = record { left = Some source.left; files = None; selected = None; faults = source.calls.faults }

-- a sink in memory: the bytes that it took, the most that it takes in all and in one write, its wants, and its calls
pub record MemorySink : Type 0 where
  pub sent : List ℕ
  pub bound : ℕ
  pub piece : ℕ
  pub wants : ℕ
  pub calls : CallList

-- what it shows as a sink
abbrev pub memory_sink_state : MemorySink → SinkState
memory_sink_state sink = record { sent = Some sink.sent; offered = None; faults = sink.calls.faults; wants = sink.wants }

-- the most bytes that its next write takes
abbrev pub room : MemorySink → ℕ
room sink = min sink.piece (sink.bound - length sink.sent)

-- It takes no more bytes.
abbrev pub IsFull : MemorySink → Type 0
IsFull sink = sink.bound ≤ length sink.sent

-- a folder in memory: its files, the name selected last and what is left of that file, the most that a read gives, and
-- its calls
pub record MemoryFolder : Type 0 where
  pub files : List NamedFile
  pub selected : Option (List ℕ)
  pub left : List ℕ
  pub piece : ℕ
  pub calls : CallList

-- what it shows as a folder
abbrev pub memory_folder_state : MemoryFolder → SourceState
memory_folder_state folder = record {
  left = Some folder.left;
  files = Some (first_of_name folder.files);
  selected = folder.selected;
  faults = folder.calls.faults;
}

-- what a source that never fails shows: it is the list of the bytes that it has left
abbrev pub sure_source_state : List ℕ → SourceState
sure_source_state left = record { left = Some left; files = None; selected = None; faults = 0 }

-- a sink that never fails: the bytes that it took, and its wants of memory
pub record SureSink : Type 0 where
  pub sent : List ℕ
  pub wants : ℕ

-- what it shows as a sink
abbrev pub sure_sink_state : SureSink → SinkState
sure_sink_state sink = record { sent = Some sink.sent; offered = None; faults = 0; wants = sink.wants }

-- a folder that fails at a missing name alone: its files, the name selected last and what is left of that file, and how
-- often a name was missing
pub record SureFolder : Type 0 where
  pub files : List NamedFile
  pub selected : Option (List ℕ)
  pub left : List ℕ
  pub missing : ℕ

-- what it shows as a folder
abbrev pub sure_folder_state : SureFolder → SourceState
sure_folder_state folder = record {
  left = Some folder.left;
  files = Some (first_of_name folder.files);
  selected = folder.selected;
  faults = folder.missing;
}

-- what is left of an open file, where it tells, and nothing where none is open
abbrev pub open_left : {F : Type 0} → (F → Option (List ℕ)) → Option F → Option (List ℕ)
open_left remaining None = Some []
open_left remaining (Some file) = remaining file

-- a folder of the host: the name selected last, what is left of the open file, whether one is open, and how often the
-- system has failed
pub record HostFolder : Type 0 where
  pub selected : Option (List ℕ)
  pub left : Option (List ℕ)
  pub is_open : Bool
  pub faults : ℕ

-- what a reader shows as a source: the bytes that it has left, where it tells them, and the number of its faults
abbrev pub reader_state : Option (List ℕ) → ℕ → SourceState
reader_state left faults = record { left = left; files = None; selected = None; faults = faults }

-- what that folder shows as a folder: it doesn't tell its files
abbrev pub host_folder_state : HostFolder → SourceState
host_folder_state folder = record {
  left = folder.left;
  files = None;
  selected = folder.selected;
  faults = folder.faults;
}

-- what a writer shows as a sink: the bytes that it holds, where it tells them, and the number of its faults
abbrev pub writer_state : Option (List ℕ) → ℕ → SinkState
writer_state contents faults = record { sent = contents; offered = None; faults = faults; wants = 0 }
