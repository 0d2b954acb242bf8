-- Which files a joiner stands for.
use Rattle.std.specs.Prelude.{◌≡◌, ℕ, ◌-◌, ◌<◌, List, [], Some, length, map, take, slice_get, slice_set, slice_index_or}
use Rattle.arc_graph.specs.Files.{ArcFile, size_of, ends_of}
use Rattle.list_laws.specs.Least.{IsLeastIfAny}
use Rattle.arc_graph.specs.Faults.{AreLeastIfAny}
use Rattle.arc_graph.specs.Agreement.{IsOtherSize, DiffersInEnds, vector_at}
use Rattle.arc_graph.specs.Joiner.{Joiner}

-- the sizes that were said as the files began: of a file that has come whole its own, of the last what it is to have
abbrev pub sizes_said : Joiner → List ArcFile → List (ℕ × ℕ)
sizes_said j files = slice_set (map size_of files) (j.begun - 1) (j.due_nodes, j.due_arcs)

-- The joiner stands for these files: all but the last have come whole, and of the last as many arcs as have come. It
-- keeps the first file's nodes and ends, the weights of the arcs up to the first file's length, and the faults so far.
pub record JoinerHolds (j : Joiner) (files : List ArcFile) : Type 0 where
  pub begun : length files ≡ j.begun
  pub last : (file : ArcFile) → slice_get files (j.begun - 1) ≡ Some file → size_of file ≡ (j.due_nodes, j.come)
  pub nodes : (first : ArcFile) → slice_get files 0 ≡ Some first → j.nodes ≡ first.nodes
  pub ends : (first : ArcFile) → slice_get files 0 ≡ Some first → j.ends ≡ map ends_of first.arcs
  pub weights : (place : ℕ) → place < length j.ends
      → take j.begun (slice_index_or j.vectors place []) ≡ vector_at files place
  pub other_size : IsLeastIfAny (IsOtherSize (sizes_said j files)) j.other_size
  pub other_ends : AreLeastIfAny (DiffersInEnds files) j.other_ends
