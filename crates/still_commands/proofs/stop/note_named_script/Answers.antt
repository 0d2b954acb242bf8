use Rattle.std.proofs.Common.{◌∙◌, ◌++◌, append_assoc, codes}
use Rattle.answer_writer.specs.Replies.{end_line}
use Rattle.still_commands.proofs.stop.note_named_script.Goals as goal

pub returns-in-Folder : goal.returns-in-Folder
returns-in-Folder g c =
    rw (c.in-Folder.is, append_assoc c.args.stem.now c.args.number.now end_line) c.put_line.ensures.sent

pub returns-in-TooLong : goal.returns-in-TooLong
returns-in-TooLong g c =
    let stem = c.args.stem.now in
    let number = c.args.number.now in
    let same = append_assoc (stem ++ number) (codes " too long") end_line ∙ append_assoc stem number (codes " too long" ++ end_line) in
    rw (c.in-TooLong.is, same) c.put_line-in-TooLong.ensures.sent
