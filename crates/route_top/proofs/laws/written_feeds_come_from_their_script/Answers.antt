use Rattle.route_top.proofs.LeaderFeeds.{written_comes}
use Rattle.route_top.proofs.laws.written_feeds_come_from_their_script.Goals as goal

pub returns : goal.returns
returns c = λ asked net scripts text came feed front. written_comes asked net scripts text came feed front
