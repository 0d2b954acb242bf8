-- When files list the same arcs with different weights, and what network they then say.
use Rattle.std.specs.Prelude.{◌≡◌, ◌≢◌, ℕ, ◌-◌, ◌≤◌, ◌⊎◌, ⊤, List, [], ◌∷◌, Some, IsSomeAnd, length, map, slice_get, All}
use Rattle.std.specs.List.{enumerate_from}
use Rattle.std.specs.Option.{option_map_or}
use Rattle.arc_graph.specs.declared.file.ArcLine.{ArcLine}
use Rattle.arc_graph.specs.declared.join.Disagreement.{Disagreement}
use Rattle.arc_graph.specs.declared.join.Disagreement.TheVariants.{Sizes, Ends, ZeroArc}
use Rattle.arc_graph.specs.declared.join.JoinFault.{JoinFault}
use Rattle.arc_graph.specs.declared.join.JoinFault.TheVariants.{Files, OutOfMemory}
use Rattle.arc_graph.specs.Files.{ArcFile, size_of, ends_of}
use Rattle.list_laws.specs.Least.{IsLeastWith}
use Rattle.road_network.specs.Network.{Network}

-- the first of a list, and number n, counted from 1
pub record AreFirstAnd {X : Type 0} (xs : List X) (n : ℕ) (first other : X) : Type 0 where
  pub counted : 1 ≤ n
  pub first_is : slice_get xs 0 ≡ Some first
  pub other_is : slice_get xs (n - 1) ≡ Some other

-- size number f, counted from 1, isn't the first size
pub record IsOtherSize (sizes : List (ℕ × ℕ)) (f : ℕ) : Type 0 where
  pub first : ℕ × ℕ
  pub other : ℕ × ℕ
  pub sizes_are : AreFirstAnd sizes f first other
  pub differs : other ≢ first

-- file f has another number of nodes or of arcs than the first file
abbrev pub DiffersInSize : List ArcFile → ℕ → Type 0
DiffersInSize files f = IsOtherSize (map size_of files) f

-- arc a, counted from 1, has another tail or head in file f than in the first file
pub record DiffersInEnds (files : List ArcFile) (a f : ℕ) : Type 0 where
  pub first : ArcFile
  pub other : ArcFile
  pub files_are : AreFirstAnd files f first other
  pub counted : 1 ≤ a
  pub arc : ArcLine
  pub other_arc : ArcLine
  pub arc_is : slice_get first.arcs (a - 1) ≡ Some arc
  pub other_arc_is : slice_get other.arcs (a - 1) ≡ Some other_arc
  pub differs : ends_of other_arc ≢ ends_of arc

-- the weight of arc a is 0 in every file
pub record IsZeroArc (files : List ArcFile) (a : ℕ) : Type 0 where
  pub counted : 1 ≤ a
  pub zero : All (λ f. IsSomeAnd (slice_get f.arcs (a - 1)) (λ arc. arc.weight ≡ 0)) files

-- arc a can't be joined
abbrev pub IsFaultyArc : List ArcFile → ℕ → Type 0
IsFaultyArc files a = ((f : ℕ) × DiffersInEnds files a f) ⊎ IsZeroArc files a

-- all files have as many nodes and arcs as the first
abbrev pub AgreeInSize : List ArcFile → Type 0
AgreeInSize files = (f : ℕ) → ¬ DiffersInSize files f

-- The files have as many nodes and list the same arcs, none of which has only zero weights. Callers ask for two to four.
pub record Agree (files : List ArcFile) : Type 0 where
  pub sizes : AgreeInSize files
  pub arcs : (a : ℕ) → ¬ IsFaultyArc files a

-- The fault that is told: another size first, of the least such file; else that of the least faulty arc, where other
-- ends, in the least such file, come before zero weights.
abbrev pub HasFault : List ArcFile → Disagreement → Type 0
HasFault files (Sizes f) = IsLeastWith (DiffersInSize files) f
HasFault files (Ends a f) = AgreeInSize files × IsLeastWith (IsFaultyArc files) a × IsLeastWith (DiffersInEnds files a) f
HasFault files (ZeroArc a) =
    AgreeInSize files × IsLeastWith (IsFaultyArc files) a × ((f : ℕ) → ¬ DiffersInEnds files a f) × IsZeroArc files a

-- what is told of files that aren't joined is theirs, unless memory was wanting
abbrev pub IsFaultOf : List ArcFile → JoinFault → Type 0
IsFaultOf files (Files way) = HasFault files way
IsFaultOf files (OutOfMemory want) = ⊤

-- the weight of the arc at a place, from 0, in one file
abbrev pub weight_at : ℕ → ArcFile → ℕ
weight_at place file = option_map_or (λ (arc : ArcLine). arc.weight) (slice_get file.arcs place) 0

-- the vector of the arc at a place: its weights in the order of the files
abbrev pub vector_at : List ArcFile → ℕ → List ℕ
vector_at files place = map (weight_at place) files

-- the network that agreeing files say: the arcs of the first, with the weights of all
abbrev pub joined : List ArcFile → Network
joined [] = record { nodes = 0; ends = []; criteria = 0; states = [] }
joined (first ∷ others) = record {
  nodes = first.nodes;
  ends = map ends_of first.arcs;
  criteria = length (first ∷ others);
  states = map (λ (p : ℕ × ArcLine). Some (vector_at (first ∷ others) p.0)) (enumerate_from 0 first.arcs);
}
