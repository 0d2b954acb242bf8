use Rattle.route_top.proofs.LeaderFeeds.{follow_keeps}
use Rattle.route_top.proofs.laws.follow_keeps_to_its_leader.Goals as goal

pub returns : goal.returns
returns c = λ asked net scripts text leader replies are. follow_keeps asked net scripts text leader replies are
