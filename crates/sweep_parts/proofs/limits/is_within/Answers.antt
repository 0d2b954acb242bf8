use Rattle.sweep_parts.proofs.LimitLemmas.{within_greatest}
use Rattle.list_laws.proofs.OnceLaws.{alike_through}
use Rattle.sweep_parts.proofs.limits.is_within.Goals as goal

pub returns : goal.returns
returns g c limit greatest = alike_through c.at_most.ensures (within_greatest limit c.args.most.now.0 c.args.cost.now.0 greatest c.have_64_bits.ensures)
