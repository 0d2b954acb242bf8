use Rattle.route_lanes.proofs.ServiceLemmas.{first_and_all}
use Rattle.route_lanes.proofs.SaidLemmas.{leaves_as}
use Rattle.route_lanes.specs.Services.{CallLeaves, ServesOne}
use Rattle.route_lanes.proofs.service.serve_all.Goals as goal

pub returns : goal.returns
returns g c =
    let one = leaves_as _ _ (ServesOne (CallLeaves g.V.Fn c.args.lead.now)) (λ a b d e said. said) _ _ _ _ c.lead_beside.ensures.leads in
    let all = first_and_all (CallLeaves g.V.Fn c.args.lead.now) (CallLeaves g.W.Fn c.args.serve.now) one c.lead_beside.ensures.serves in
    rw c.split_at_mut-first.ensures.value all
