-- The weight files of the 9th DIMACS Implementation Challenge, and the first fault of a text that is none.
use Rattle.std.specs.Prelude.{ℕ, ◌^◌, ◌&&◌, nat_le, nat_lt, Bool, if◌then◌else◌, List, [], ◌∷◌, length, Option, Some, None}
use Rattle.std.specs.Prelude.{codes}
use Rattle.road_network.specs.Limits.{max_nodes, max_arcs}
use Rattle.arc_graph.specs.declared.file.ArcLine.{ArcLine}
use Rattle.arc_graph.specs.Files.{ArcFile}
use Rattle.line_text.specs.declared.limits.LineLimits.{LineLimits}
use Rattle.gr_reader.specs.declared.fault.LineKind.{LineKind}
use Rattle.gr_reader.specs.declared.weights.Sizes.{Sizes}
use Rattle.gr_reader.specs.Rules.{LineForm, Rules, is_word, number_of}
use Rattle.gr_reader.specs.Rules.LineForm.{Problem, Record, Malformed}
use Rattle.gr_reader.specs.Files.{IsFile, FirstFault}

-- the numbers of nodes and arcs
abbrev pub problem_of : Option ℕ → Option ℕ → LineForm Sizes ArcLine
problem_of (Some nodes) (Some arcs) = Problem (record { nodes = nodes; arcs = arcs })
problem_of (Some nodes) None = Malformed
problem_of None arcs = Malformed

-- the tail, the head and the weight
abbrev pub arc_of : Option ℕ → Option ℕ → Option ℕ → LineForm Sizes ArcLine
arc_of (Some tail) (Some head) (Some weight) = Record (record { tail = tail; head = head; weight = weight })
arc_of (Some tail) (Some head) None = Malformed
arc_of (Some tail) None weight = Malformed
arc_of None head weight = Malformed

-- behind `p` stand exactly the fields `sp`, a number and a number
abbrev pub problem_from : List (List ℕ) → LineForm Sizes ArcLine
problem_from (word ∷ nodes ∷ arcs ∷ []) =
    if is_word word (codes "sp") then problem_of (number_of nodes) (number_of arcs) else Malformed
problem_from fields = Malformed

-- behind `a` stand exactly three numbers
abbrev pub arc_from : List (List ℕ) → LineForm Sizes ArcLine
arc_from (tail ∷ head ∷ weight ∷ []) = arc_of (number_of tail) (number_of head) (number_of weight)
arc_from fields = Malformed

-- what a line of a weight file says
abbrev pub weights_form : List (List ℕ) → LineForm Sizes ArcLine
weights_form [] = Malformed
weights_form (word ∷ fields) =
    if is_word word (codes "a")
    then arc_from fields
    else (if is_word word (codes "p") then problem_from fields else Malformed)

-- the test that a number is a node's
abbrev pub is_node : ℕ → ℕ → Bool
is_node nodes v = nat_le 1 v && nat_le v nodes

-- Weight files say how many nodes and arcs there are, and then each arc: its tail, its head and its weight.
abbrev pub weights : Rules Sizes ArcLine
weights = record {
  form_from = weights_form;
  is_size = λ sizes. nat_le 1 sizes.nodes && nat_le sizes.nodes max_nodes && nat_le sizes.arcs max_arcs;
  count = λ sizes. sizes.arcs;
  has_nodes = λ sizes arc. is_node sizes.nodes arc.tail && is_node sizes.nodes arc.head;
  has_weight = λ arc. nat_lt arc.weight (2 ^ 32);
}

-- the text is a weight file of so many nodes and these arcs
abbrev pub IsGr : LineLimits → List ℕ → ℕ → List ArcLine → Type 0
IsGr limits bytes nodes arcs = IsFile weights limits bytes (record { nodes = nodes; arcs = length arcs }) arcs

-- the same of a file in memory
abbrev pub IsGrFile : LineLimits → List ℕ → ArcFile → Type 0
IsGrFile limits bytes file = IsGr limits bytes file.nodes file.arcs

-- this line is the first that keeps the text from being a weight file, for this reason
abbrev pub GrFault : LineLimits → List ℕ → LineKind → ℕ → Type 0
GrFault limits bytes kind line = FirstFault weights limits bytes kind line
