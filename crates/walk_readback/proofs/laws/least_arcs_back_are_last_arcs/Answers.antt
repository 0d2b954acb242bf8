use Rattle.walk_readback.proofs.GoingBackLaws.{least_goes_back}
use Rattle.walk_readback.proofs.WellFoundLaws.{way_is_readable}
use Rattle.walk_readback.proofs.laws.least_arcs_back_are_last_arcs.Goals as goal

pub returns : goal.returns
returns g = λ net limit f v cost p is well way. least_goes_back (way_is_readable net is limit f well v cost way) p
