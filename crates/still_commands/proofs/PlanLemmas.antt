-- The files of a plan, as they are made, read and joined.
use Rattle.std.proofs.Common.{◌≡◌, ◌∙◌, ℕ, zero, suc, ◌+◌, ◌≤◌, List, Err, Some, map, refl, ap, subst, sym, arith}
use Rattle.std.specs.List.{AllZip, range_with_len}
use Rattle.std.proofs.lemmas.List.FromFn.{map-range_with_len_more}
use Rattle.route_io.specs.Forms.{sure_source_state}
use Rattle.route_io.specs.Sources.{ReadsFrom}
use Rattle.arc_graph.specs.declared.file.ArcLine.{ArcLine}
use Rattle.arc_graph.specs.declared.join.JoinFault.{JoinFault}
use Rattle.arc_graph.specs.declared.join.JoinFault.TheVariants as join
use Rattle.arc_graph.specs.Agreement.{Agree, IsFaultOf, joined}
use Rattle.road_network.specs.Network.{Network}
use Rattle.out_of_memory.specs.declared.OutOfMemory.{OutOfMemory}
use Rattle.std.specs.Prelude.{IfOk, Result}
use Rattle.std.proofs.lemmas.Result.{IfOk-weaker}
use Rattle.arc_graph.specs.Files.{ArcFile}
use Rattle.arc_graph.specs.Joiner.{Joiner}
use Rattle.arc_graph.proofs.FaultLemmas.{none_of_agreeing}
use Rattle.arc_graph.specs.JoinerHolds.{JoinerHolds}
use Rattle.gr_reader.specs.declared.fault.FileFault.{FileFault}
use Rattle.gr_reader.specs.declared.fault.FileFault.TheVariants as file
use Rattle.line_text.specs.declared.limits.LineLimits.{LineLimits}
use Rattle.gr_reader.specs.declared.weights.Sizes.{Sizes}
use Rattle.gr_reader.specs.Files.{IsFile}
use Rattle.gr_reader.specs.Grammar.{IsGrFile, weights}
use Rattle.gr_reader.specs.Reader.{IsFirstFault, file_failed}
use Rattle.gr_reader.specs.Rules.{Rules}
use Rattle.gr_reader.specs.Sinks.{JoinerHasTaken, TakesFile}
use Rattle.gr_reader.proofs.LawsLemmas.{is_decided}
use Rattle.query_reader.specs.declared.pairs.Pair.{Pair}
use Rattle.query_reader.specs.Grammar.{IsPairs, pairs}
use Rattle.graph_gen.specs.declared.GenPlan.{GenPlan}
use Rattle.graph_gen.specs.Plans.{IsPlan}
use Rattle.graph_gen.specs.Grids.{node_count}
use Rattle.graph_gen.specs.Texts.{file_text, pairs_text, weight_text}
use Rattle.gen_laws.specs.Laws.{LeaveRoom, PairFilesAreRead, WeightFilesAgree, WeightFilesAreRead, file_of, files_of, pairs_of}
use Rattle.command_words.specs.declared.commands.GenWords.{GenWords}
use Rattle.still_commands.specs.declared.summary.Summary.{Summary}
use Rattle.still_commands.specs.FilesRead.{reading_limits}
use Rattle.still_commands.specs.Summary.{ComesTo, IsFileWant, IsJoinWant, SumsUp, TakesWhole}

-- the limits of a run leave room for generated files
pub leave_room : LeaveRoom reading_limits
leave_room = record { line = omega arith; file = omega arith }

-- a file has no fault of a line, and bytes in memory can be read
pub only_want : {P R : Type 0} (rules : Rules P R) (limits : LineLimits) (bytes left : List ℕ) (problem : P) (records : List R) (fault : FileFault)
    → IsFile rules limits bytes problem records → IsFirstFault rules limits bytes fault
    → ReadsFrom (sure_source_state bytes) (sure_source_state left) (file_failed {T = Unit {0}} (Err fault)) → IsFileWant fault
only_want rules limits bytes left problem records (file.Line kind line) is first reads =
    absurd ((is_decided rules limits bytes).never_both problem records kind line is first)
only_want rules limits bytes left problem records file.Read is first reads = absurd (omega (arith, reads.cause.1))
only_want rules limits bytes left problem records (file.OutOfMemory want) is first reads = tt

-- files that agree are joined, unless memory runs out
pub only_want_in : (files : List ArcFile) (fault : JoinFault) → Agree files → IsFaultOf files fault → IsJoinWant fault
only_want_in files (join.Files way) agree is = absurd (none_of_agreeing files way agree is)
only_want_in files (join.OutOfMemory want) agree is = tt

-- a text is of one weight file, which is what the joiner has taken
pub takes_whole : (bytes : List ℕ) (file : ArcFile) (before now : Joiner) → IsGrFile reading_limits bytes file
    → TakesFile reading_limits (Some bytes) (JoinerHasTaken before now) → TakesWhole before now file
takes_whole bytes file before now is takes =
    let same = (is_decided weights reading_limits bytes).one_file _ _ takes.file.arcs file.arcs takes.is_gr is in
    let at : ℕ → List ArcLine → ArcFile = λ n a. record { nodes = n; arcs = a } in
    let whole : takes.file ≡ file = ap (λ (sizes : Sizes). at sizes.nodes takes.file.arcs) same.0 ∙ ap (at file.nodes) same.1 in
    subst (TakesWhole before now) whole takes.taken

-- a text is of one list of pairs
pub one_list_of_pairs : (bytes : List ℕ) (all other : List Pair) → IsPairs reading_limits bytes all → IsPairs reading_limits bytes other → all ≡ other
one_list_of_pairs bytes all other is second = ((is_decided pairs reading_limits bytes).one_file _ _ all other is second).1

-- the joiner stands for one file more of a plan
pub stands_for_more : (plan : GenPlan) (n : ℕ) (before now : Joiner) → JoinerHolds before (map (file_of plan) (range_with_len 1 n))
    → TakesWhole before now (file_of plan (n + 1)) → JoinerHolds now (map (file_of plan) (range_with_len 1 (n + 1)))
stands_for_more plan n before now stands takes =
    subst (JoinerHolds now) (sym (map-range_with_len_more (file_of plan) 1 n (n + 1) (omega arith))) (takes.stands _ stands)

-- the text of a file of weights
weight_file : (plan : GenPlan) (number : ℕ) → 1 ≤ number → file_text plan number ≡ weight_text plan number
weight_file plan zero some = absurd (omega (arith, some))
weight_file plan (suc n) some = refl

-- a weight file that was made is one
pub made_weights : (plan : GenPlan) (number : ℕ) (bytes text : List ℕ) → IsPlan plan → WeightFilesAreRead → 1 ≤ number → bytes ≡ text
    → text ≡ file_text plan number → IsGrFile reading_limits bytes (file_of plan number)
made_weights plan number bytes text is read some same made =
    subst (λ t. IsGrFile reading_limits t (file_of plan number)) (sym (same ∙ made ∙ weight_file plan number some))
    (read reading_limits plan number leave_room is)

-- the weight files of a plan say its network
pub files_say : (plan : GenPlan) → IsPlan plan → WeightFilesAreRead → (a n : ℕ) → 1 ≤ a
    → AllZip (λ number. IsGrFile reading_limits (file_text plan number)) (range_with_len a n) (map (file_of plan) (range_with_len a n))
files_say plan is read a zero some = tt
files_say plan is read a (suc n) some = (
  subst (λ text. IsGrFile reading_limits text (file_of plan a)) (sym (weight_file plan a some)) (read reading_limits plan a leave_room is),
  files_say plan is read (a + 1) n (omega (arith, some)),
)

joined_nodes : (plan : GenPlan) (n : ℕ) → 1 ≤ n → (joined (map (file_of plan) (range_with_len 1 n))).nodes ≡ node_count plan.side
joined_nodes plan zero some = absurd (omega (arith, some))
joined_nodes plan (suc n) some = refl

-- the nodes of a plan's network are the grid's
pub nodes_of_plan : (plan : GenPlan) (net : Network) → IsPlan plan → net ≡ joined (files_of plan) → net.nodes ≡ node_count plan.side
nodes_of_plan plan net is same = ap (λ (n : Network). n.nodes) same ∙ joined_nodes plan plan.criteria (omega (arith, is.some_criteria))

-- the counts are those of a plan
pub comes_to : (asked : GenWords) (net : Network) (all : List Pair) (result : Result Summary OutOfMemory) → IsPlan asked.plan → WeightFilesAreRead
    → WeightFilesAgree → PairFilesAreRead → net ≡ joined (files_of asked.plan) → all ≡ pairs_of asked.plan
    → IfOk result (λ counts. SumsUp net asked.limits.budget all counts) → IfOk result (ComesTo asked)
comes_to asked net all result is read agree pairs_read same same_pairs sums =
    IfOk-weaker result (SumsUp net asked.limits.budget all) (ComesTo asked) (λ counts one. record {
      net = net;
      pairs = all;
      says = record {
        contents = files_of asked.plan;
        read = files_say asked.plan is read 1 asked.plan.criteria (omega arith);
        agree = agree asked.plan is;
        network = same;
        pairs_read = subst (IsPairs reading_limits (pairs_text asked.plan)) (sym same_pairs) (pairs_read reading_limits asked.plan leave_room is);
      };
      answers = one;
    }) sums
