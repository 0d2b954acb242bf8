use Rattle.std.proofs.Common.{rules, ◌≡◌, ◌+◌}
use Rattle.link_doors.specs.Forms.{new_host_doors}
use Rattle.link_doors.proofs.TownLemmas.{host_hands_out}
use Rattle.link_doors.proofs.host_town.HostTownTown.listen.Goals as goal

pub returns-clause-listens : goal.returns-clause-listens
returns-clause-listens g c =
    let doors : c.open_doors.new.doors.items ≡ new_host_doors c.args.links (c.args.lanes + 1) = search rules in
    rw doors (host_hands_out _ _ c.args.lanes c.args.links (search rules))
