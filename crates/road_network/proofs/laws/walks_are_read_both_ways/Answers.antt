use Rattle.road_network.proofs.WalkLaws.{readings_agree}
use Rattle.road_network.proofs.laws.walks_are_read_both_ways.Goals as goal

pub returns : goal.returns
returns c = λ net p s v cost is. readings_agree net is p s v cost
