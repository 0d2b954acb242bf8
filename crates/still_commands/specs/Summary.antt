-- What all files of a plan come to: the network and the pairs that they say, and the answers to these pairs.
use Rattle.std.specs.Prelude.{◌≡◌, ⊤, ℕ, ◌+◌, ◌*◌, ◌≤◌, List, [], Option, Some, None, is_none, is_some, length, sum, sum_by, count_by}
use Rattle.std.specs.Prelude.{unwrap_or}
use Rattle.std.specs.List.{AllZip, flat_map, range_with_len}
use Rattle.cost_vector.specs.Costs.{no_limit}
use Rattle.road_network.specs.Limits.{max_budget}
use Rattle.road_network.specs.Network.{Network}
use Rattle.road_network.specs.Answers.{IsAnswer, Passes, Route}
use Rattle.arc_graph.specs.Files.{ArcFile}
use Rattle.arc_graph.specs.Agreement.{Agree, joined}
use Rattle.arc_graph.specs.Joiner.{Joiner}
use Rattle.walk_readback.specs.Found.{FoundCosts, IsFound, IsWellFound}
use Rattle.gr_reader.specs.Grammar.{IsGrFile}
use Rattle.gr_reader.specs.Sinks.{JoinerHasTaken}
use Rattle.query_reader.specs.declared.pairs.Pair.{Pair}
use Rattle.query_reader.specs.Grammar.{IsPairs}
use Rattle.graph_gen.specs.declared.GenPlan.{GenPlan}
use Rattle.graph_gen.specs.Texts.{file_text, pairs_text}
use Rattle.road_network.specs.declared.query.Query.{Query}
use Rattle.command_words.specs.declared.commands.GenWords.{GenWords}
use Rattle.still_commands.specs.declared.summary.Summary.{Summary}
use Rattle.still_commands.specs.FilesRead.{reading_limits}
use Rattle.still_commands.specs.Texts.{gen_reply}
use Rattle.arc_graph.specs.declared.join.JoinFault.{JoinFault}
use Rattle.arc_graph.specs.declared.join.JoinFault.TheVariants as join
use Rattle.gr_reader.specs.declared.fault.FileFault.{FileFault}
use Rattle.gr_reader.specs.declared.fault.FileFault.TheVariants as file

-- a file wasn't read for want of memory alone
abbrev pub IsFileWant : FileFault → Type 0
IsFileWant (file.OutOfMemory want) = ⊤
IsFileWant fault = ⊥

-- files weren't joined for want of memory alone
abbrev pub IsJoinWant : JoinFault → Type 0
IsJoinWant (join.OutOfMemory want) = ⊤
IsJoinWant fault = ⊥

-- The files of the plan say this network and these pairs.
pub record PlanSays (plan : GenPlan) (net : Network) (pairs : List Pair) : Type 0 where
  pub contents : List ArcFile
  pub read : AllZip (λ number. IsGrFile reading_limits (file_text plan number)) (range_with_len 1 plan.criteria) contents
  pub agree : Agree contents
  pub network : net ≡ joined contents
  pub pairs_read : IsPairs reading_limits (pairs_text plan) pairs

-- The pair's query within its budget has this answer, or passes the budget and has none.
abbrev pub PairEnds : Network → ℕ → Pair → Option (List Route) → Type 0
PairEnds net budget pair (Some routes) =
    (¬ Passes net pair.from pair.to (no_limit net.criteria) budget)
    × IsAnswer net pair.from pair.to (no_limit net.criteria) routes
PairEnds net budget pair None = Passes net pair.from pair.to (no_limit net.criteria) budget

-- the costs of all answers, with their walks
abbrev pub all_routes : List (Option (List Route)) → List Route
all_routes ends = flat_map (λ end. unwrap_or end []) ends

-- The counts: the network's sizes, the pairs, those that were answered and those that passed the budget, the costs of
-- all answers, the arcs of all their walks, and the components of all these costs added up.
abbrev pub summary_of : Network → List (Option (List Route)) → Summary
summary_of net ends = record {
  nodes = net.nodes;
  arcs = length net.ends;
  criteria = net.criteria;
  pairs = length ends;
  answered = count_by is_some ends;
  passed = count_by is_none ends;
  costs = length (all_routes ends);
  walk_arcs = sum_by (λ r. length r.arcs) (all_routes ends);
  total = sum_by (λ r. sum r.cost) (all_routes ends);
}

-- The counts are those of the answers to these pairs.
pub record SumsUp (net : Network) (budget : ℕ) (pairs : List Pair) (counts : Summary) : Type 0 where
  pub ends : List (Option (List Route))
  pub each : AllZip (PairEnds net budget) pairs ends
  pub counted : counts ≡ summary_of net ends

-- The counts are the summary of all files of the plan, and of the answers to its pairs.
pub record ComesTo (asked : GenWords) (counts : Summary) : Type 0 where
  pub net : Network
  pub pairs : List Pair
  pub says : PlanSays asked.plan net pairs
  pub answers : SumsUp net asked.limits.budget pairs counts

-- The text is the summary of the plan's files.
pub record IsSummary (asked : GenWords) (text : List ℕ) : Type 0 where
  pub counts : Summary
  pub comes_to : ComesTo asked counts
  pub reply : text ≡ gen_reply counts

-- ---- how the counts are made

-- The joiner has taken one file more, which is this one.
abbrev pub TakesWhole : Joiner → Joiner → ArcFile → Type 0
TakesWhole before now file = JoinerHasTaken before now (length file.arcs) file

-- the counts with the costs of one answer more
abbrev pub with_routes : Summary → List Route → Summary
with_routes s routes = record {
  nodes = s.nodes;
  arcs = s.arcs;
  criteria = s.criteria;
  pairs = s.pairs;
  answered = s.answered;
  passed = s.passed;
  costs = s.costs + length routes;
  walk_arcs = s.walk_arcs + sum_by (λ r. length r.arcs) routes;
  total = s.total + sum_by (λ r. sum r.cost) routes;
}

-- the counts with one pair more
abbrev pub with_pair : Summary → Option (List Route) → Summary
with_pair s (Some routes) =
    record (with_routes s routes) { pairs = s.pairs + 1; answered = s.answered + 1 }
with_pair s None = record s { pairs = s.pairs + 1; passed = s.passed + 1 }

-- the pair that a query leads between
abbrev pub pair_of : Query → Pair
pair_of query = record { from = query.from; to = query.to }

-- What was found is of this query without a limit, and has its whole answer.
pub record HasAnswer (net : Network) (query : Query) (f : FoundCosts) : Type 0 where
  pub start : f.start ≡ query.from
  pub target : f.target ≡ query.to
  pub nodes : f.nodes ≡ net.nodes
  pub criteria : f.criteria ≡ net.criteria
  pub well_found : IsWellFound net (no_limit net.criteria) f

-- What was found is the whole answer to a query within its budget, which few costs are.
pub record HasWhole (net : Network) (query : Query) (f : FoundCosts) : Type 0 where
  pub answer : HasAnswer net query f
  pub few : IsFound f → length f.costs ≤ max_budget
  pub within : ¬ Passes net query.from query.to (no_limit net.criteria) query.budget

-- A pair was counted by its end.
pub record CountsPair (net : Network) (budget : ℕ) (pair : Pair) (old new : Summary) : Type 0 where
  pub end : Option (List Route)
  pub ends : PairEnds net budget pair end
  pub counted : new ≡ with_pair old end

-- The costs of the answer to a query were counted, with their walks.
pub record CountsAnswer (net : Network) (s t : ℕ) (old new : Summary) : Type 0 where
  pub routes : List Route
  pub answer : IsAnswer net s t (no_limit net.criteria) routes
  pub counted : new ≡ with_routes old routes

-- The sums are at most as great as so many costs of a small network can make them.
pub record AreFew (s : Summary) : Type 0 where
  pub walk_arcs : s.walk_arcs ≤ s.costs * 1000000
  pub total : s.total ≤ s.costs * 400000000

-- No count is greater than so many pairs can make it.
pub record Fits (s : Summary) : Type 0 where
  pub answered : s.answered ≤ s.pairs
  pub passed : s.passed ≤ s.pairs
  pub costs : s.costs ≤ s.pairs * max_budget
  pub sums : AreFew s
