use Rattle.std.proofs.Common.{rules}
use Rattle.link_doors.specs.Forms.{memory_door_state}
use Rattle.link_doors.proofs.TownLemmas.{any_failed_shown}
use Rattle.link_doors.proofs.memory_town.count_failed.Goals as goal

pub returns-then-any_failed : goal.returns-then-any_failed
returns-then-any_failed c =
    rw (← any_failed_shown memory_door_state c.args.doors.now, ← c.any_failed.ensures, c.if-any_failed.true) (search rules)

pub returns-else-any_failed : goal.returns-else-any_failed
returns-else-any_failed c =
    rw (← any_failed_shown memory_door_state c.args.doors.now, ← c.any_failed.ensures, c.if-any_failed.false) (search rules)
