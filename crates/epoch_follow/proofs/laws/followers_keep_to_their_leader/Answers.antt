use Rattle.list_laws.proofs.Members.{each_in}
use Rattle.epoch_follow.specs.Followers.{ComesFrom}
use Rattle.epoch_follow.specs.Text.{head_of}
use Rattle.epoch_follow.proofs.FollowLemmas.{keeps}
use Rattle.epoch_follow.proofs.laws.followers_keep_to_their_leader.Goals as goal

pub returns : goal.returns
returns c = λ g first leader old ds new followed.
    keeps g first leader old followed.graph followed.published followed.begins (each_in (λ d. ComesFrom (head_of g first) leader d.bytes) ds followed.come) followed.follows
