use Rattle.std.proofs.Common.{rules, ◌≡◌, ◌+◌}
use Rattle.link_doors.specs.Forms.{handed_out}
use Rattle.link_doors.proofs.TownLemmas.{memory_hands_out}
use Rattle.link_doors.proofs.memory_town.MemoryTownTown.listen.Goals as goal

pub returns-clause-listens : goal.returns-clause-listens
returns-clause-listens c =
    let doors : c.hand_out.new.doors.items ≡ handed_out c.args.links (c.args.lanes + 1) c.self.inside.waiting.items = search rules in
    rw doors (memory_hands_out c.self.inside.waiting.items _ _ c.args.lanes c.args.links c.self.invariant (search rules))
