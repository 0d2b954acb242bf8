use Rattle.route_lanes.proofs.FollowedLemmas.{run_keeps}
use Rattle.route_lanes.proofs.laws.runs_keep_to_their_leader.Goals as goal

pub returns : goal.returns
returns c = λ g weights first budget policy feeds feeds_after before after report leader run bring.
    run_keeps g weights first budget policy feeds feeds_after before after report leader run bring
