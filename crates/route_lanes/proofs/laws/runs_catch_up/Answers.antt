use Rattle.route_lanes.proofs.FollowedLemmas.{run_catches_up}
use Rattle.route_lanes.proofs.laws.runs_catch_up.Goals as goal

pub returns : goal.returns
returns c = λ g weights first budget policy feeds feeds_after before after report leader j feed run bring there whole.
    run_catches_up g weights first budget policy feeds feeds_after before after report leader run bring j feed there whole
