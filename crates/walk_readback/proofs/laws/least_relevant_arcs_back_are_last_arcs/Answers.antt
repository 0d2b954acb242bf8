use Rattle.walk_readback.proofs.GoingBackLaws.{least_goes_back}
use Rattle.walk_readback.proofs.WellFoundLaws.{settled_is_readable}
use Rattle.walk_readback.proofs.laws.least_relevant_arcs_back_are_last_arcs.Goals as goal

pub returns : goal.returns
returns g = λ net limit f v cost p is all relevant. least_goes_back (settled_is_readable net is limit f all v cost ((all.relevant v cost).1 relevant)) p
