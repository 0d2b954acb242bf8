use Rattle.std.proofs.Common.{◌≡◌, ◌++◌, ◌∙◌, ℕ, List, append_assoc, codes, decimal}
use Rattle.answer_writer.specs.Replies.{and_number, end_line}
use Rattle.still_commands.proofs.stop.note_disagreement.Goals as goal

regroup : (a b c d : List ℕ) → ((a ++ b) ++ c) ++ d ≡ a ++ (b ++ (c ++ d))
regroup a b c d = append_assoc (a ++ b) c d ∙ append_assoc a b (c ++ d)

pub returns-in-Ends : goal.returns-in-Ends
returns-in-Ends g c =
    let same = regroup (decimal c.from-in-Ends.result) (codes " file") (and_number c.from-in-Ends-2.result) end_line in
    rw (c.in-Ends.is, ← c.from-in-Ends.ensures, ← c.from-in-Ends-2.ensures, same)
    c.put_line-in-Ends.ensures.sent
