use Rattle.list_laws.proofs.Members.{each_in}
use Rattle.epoch_follow.specs.Followers.{ComesFrom}
use Rattle.epoch_follow.specs.Text.{head_of}
use Rattle.epoch_follow.proofs.FollowLemmas.{catches_up}
use Rattle.epoch_follow.proofs.laws.followers_catch_up.Goals as goal

pub returns : goal.returns
returns c = λ g first leader old ds new j d followed there whole.
    catches_up g first leader old followed.graph followed.published followed.begins j d
    (each_in (λ d. ComesFrom (head_of g first) leader d.bytes) ds followed.come) followed.follows there whole
