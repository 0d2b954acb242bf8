use Rattle.route_lanes.proofs.ServiceLemmas.{serves_one}
use Rattle.route_lanes.specs.Services.{CallLeaves}
use Rattle.route_lanes.proofs.service.serve_one.Goals as goal

pub returns : goal.returns
returns g c = serves_one (CallLeaves g.W.Fn c.args.serve.now) c.args.links.now _ _ _ _ c.requires.link c.serve_link.ensures
