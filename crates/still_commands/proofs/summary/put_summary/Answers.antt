use Rattle.std.proofs.Common.{◌≡◌, ◌++◌, ℕ, List, append_assoc, decimal}
use Rattle.answer_writer.specs.Replies.{and_number, end_line}
use Rattle.still_commands.proofs.summary.put_summary.Goals as goal

regroup : (a b c d e f g h i j : List ℕ)
    → ((((((((a ++ b) ++ c) ++ d) ++ e) ++ f) ++ g) ++ h) ++ i) ++ j ≡ a ++ (b ++ (c ++ (d ++ (e ++ (f ++ (g ++ (h ++ (i ++ j))))))))
regroup a b c d e f g h i j = simp append_assoc

pub returns : goal.returns
returns g c =
    let s = c.args.summary.now in
    let same = regroup (decimal s.nodes) (and_number s.arcs) (and_number s.criteria) (and_number s.pairs) (and_number s.answered)
    (and_number s.passed) (and_number s.costs) (and_number s.walk_arcs) (and_number s.total) end_line in
    rw same c.put_line.ensures.sent
