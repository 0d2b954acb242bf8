use Rattle.road_network.proofs.BackwardLaws.{has_backward_least}
use Rattle.cert_writer.proofs.label_list.label_of.Goals as goal

pub returns-clause-least : goal.returns-clause-least
returns-clause-least g c =
    let net = c.args.network.now in let f = g.F.FoundCosts.state c.args.found.now in let v = c.args.node.0 in let cost = c.args.cost.now in
    let reached = ((c.requires.whole.relevant.relevant v cost).0 c.requires.settled).best.reached in
    let (walk, least) = has_backward_least net c.nodes.ensures.network.network reached.0 f.start v cost reached.1 in
    record { walk = walk; least = least; arc = c.arc_of.ensures walk least }
