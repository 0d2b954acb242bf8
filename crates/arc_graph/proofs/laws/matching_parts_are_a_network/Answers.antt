use Rattle.arc_graph.proofs.RelaxLaws.{road_network_of}
use Rattle.arc_graph.proofs.laws.matching_parts_are_a_network.Goals as goal

pub returns : goal.returns
returns c = road_network_of
