use Rattle.route_top.proofs.WrittenFeeds.{leads}
use Rattle.route_top.proofs.laws.written_feeds_lead_their_followers.Goals as goal

pub returns : goal.returns
returns c = λ words files writes text run asked. leads words files writes text run asked
