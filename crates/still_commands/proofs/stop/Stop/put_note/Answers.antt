use Rattle.std.proofs.Common.{◌≡◌}
use Rattle.command_words.specs.declared.fault.WordsFault.TheVariants.{Refused}
use Rattle.still_commands.proofs.stop.Stop.put_note.Goals as goal

pub returns-in-Words-Refused : goal.returns-in-Words-Refused
returns-in-Words-Refused g c =
    let refused : c.in-Words-Refused.field-0 ≡ Refused = rw c.in-Words-Refused.is at c.in-Words-Refused.field-0-is in
    rw (c.in-Words-Refused.is, refused) c.put_all.ensures.sent

pub returns-in-Folder : goal.returns-in-Folder
returns-in-Folder g c = rw c.in-Folder.is c.put_line.ensures.sent

pub returns-in-Town : goal.returns-in-Town
returns-in-Town g c = rw c.in-Town.is c.put_all-in-Town.ensures.sent
