-- The files of a plan are files of their formats.
use Rattle.std.specs.Prelude.{ℕ, ◌+◌, ◌*◌, ◌^◌, ◌≤◌, List, length, map, sum, All}
use Rattle.std.specs.List.{range_with_len, zip}
use Rattle.road_network.specs.Network.{Network, IsNode}
use Rattle.road_network.specs.Walks.{IsWalk}
use Rattle.arc_graph.specs.declared.file.ArcLine.{ArcLine}
use Rattle.arc_graph.specs.Files.{ArcFile}
use Rattle.arc_graph.specs.Agreement.{Agree, joined}
use Rattle.line_text.specs.declared.limits.LineLimits.{LineLimits}
use Rattle.gr_reader.specs.Grammar.{IsGr}
use Rattle.query_reader.specs.declared.pairs.Pair.{Pair}
use Rattle.query_reader.specs.Grammar.{IsPairs}
use Rattle.graph_gen.specs.declared.GenPlan.{GenPlan}
use Rattle.graph_gen.specs.Plans.{IsPlan}
use Rattle.graph_gen.specs.Grids.{grid_arcs, node_count}
use Rattle.graph_gen.specs.Sequence.{first_number, weights_behind}
use Rattle.graph_gen.specs.Texts.{diagonal_node, pairs_text, reach, start_row, weight_text}

-- the limits leave room for generated files
pub record LeaveRoom (limits : LineLimits) : Type 0 where
  pub line : 100 ≤ limits.line
  pub file : 2 ^ 29 ≤ limits.total

-- an arc and its weight, as a line of a weight file says them
abbrev pub arc_of : (ℕ × ℕ) × ℕ → ArcLine
arc_of (ends, weight) = record { tail = ends.0; head = ends.1; weight = weight }

-- the grid's arcs with the weights of a criterion
abbrev pub arcs_of : GenPlan → ℕ → List ArcLine
arcs_of plan criterion =
    map arc_of (zip (grid_arcs plan.side)
    (weights_behind (first_number plan.start criterion) (length (grid_arcs plan.side))))

-- each weight file of a plan is a weight file of these arcs
abbrev pub WeightFilesAreRead : Type 0
WeightFilesAreRead =
    (limits : LineLimits) (plan : GenPlan) (criterion : ℕ) → LeaveRoom limits → IsPlan plan
    → IsGr limits (weight_text plan criterion) (node_count plan.side) (arcs_of plan criterion)

-- what the weight file of a criterion says
abbrev pub file_of : GenPlan → ℕ → ArcFile
file_of plan criterion = record { nodes = node_count plan.side; arcs = arcs_of plan criterion }

-- what the weight files of a plan say
abbrev pub files_of : GenPlan → List ArcFile
files_of plan = map (file_of plan) (range_with_len 1 plan.criteria)

-- the weight files of a plan agree
abbrev pub WeightFilesAgree : Type 0
WeightFilesAgree = (plan : GenPlan) → IsPlan plan → Agree (files_of plan)

-- A network of a million nodes at most, in which the components of a walk's cost add up to 400 at most for each arc.
pub record IsSmall (net : Network) : Type 0 where
  pub nodes : net.nodes ≤ 1000000
  pub costs : (s t : ℕ) (p c : List ℕ) → IsWalk net s p t c → sum c ≤ length p * 400

-- the network of a plan is small: a plan has up to four criteria, whose weights are 100 at most
abbrev pub NetworksAreSmall : Type 0
NetworksAreSmall = (plan : GenPlan) → IsPlan plan → IsSmall (joined (files_of plan))

-- pair number i, from 1
abbrev pub pair_of : GenPlan → ℕ → Pair
pair_of plan i = record {
  from = diagonal_node plan.side (start_row plan i);
  to = diagonal_node plan.side (start_row plan i + reach plan.side);
}

-- what the file of pairs of a plan says
abbrev pub pairs_of : GenPlan → List Pair
pairs_of plan = map (pair_of plan) (range_with_len 1 plan.pairs)

-- the pair is one of nodes
pub record HasNodes (nodes : ℕ) (pair : Pair) : Type 0 where
  pub from : IsNode nodes pair.from
  pub to : IsNode nodes pair.to

-- the pairs of a plan are of the grid's nodes
abbrev pub PairsHaveNodes : Type 0
PairsHaveNodes = (plan : GenPlan) → IsPlan plan → All (HasNodes (node_count plan.side)) (pairs_of plan)

-- the file of pairs of a plan is a file of these pairs
abbrev pub PairFilesAreRead : Type 0
PairFilesAreRead =
    (limits : LineLimits) (plan : GenPlan) → LeaveRoom limits → IsPlan plan
    → IsPairs limits (pairs_text plan) (pairs_of plan)
