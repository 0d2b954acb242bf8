-- The lines that `check` and `gen` write. The replies to queries are those of `answer_writer`.
use Rattle.std.specs.Prelude.{ℕ, List, ◌++◌, codes}
use Rattle.answer_writer.specs.Replies.{and_number, end_line}
use Rattle.still_commands.specs.declared.summary.Summary.{Summary}

-- `ok N M D`: the files say a network of N nodes, M arcs and D criteria
abbrev pub check_reply : ℕ → ℕ → ℕ → List ℕ
check_reply nodes arcs criteria = codes "ok" ++ and_number nodes ++ and_number arcs ++ and_number criteria ++ end_line

-- `gen N M D P ANSWERED PASSED VECTORS ARCS TOTAL`: what all files of a plan come to
abbrev pub gen_reply : Summary → List ℕ
gen_reply s =
    codes "gen" ++ and_number s.nodes ++ and_number s.arcs ++ and_number s.criteria ++ and_number s.pairs
    ++ and_number s.answered ++ and_number s.passed ++ and_number s.costs ++ and_number s.walk_arcs ++ and_number s.total
    ++ end_line
