use Rattle.settled_fronts.proofs.SharingLemmas.{accepted_parts, changed_if_ok}
use Rattle.settled_fronts.proofs.sharing.+shares.Goals as goal

pub share-share_both-requires-clause-one : goal.share-share_both-requires-clause-one
share-share_both-requires-clause-one g t c = λ κs within. (accepted_parts _ _ (rw c.split_at_mut-one.ensures.value at c.requires.accepted)).0

pub share-share_both-requires-clause-others : goal.share-share_both-requires-clause-others
share-share_both-requires-clause-others g t c = λ κs within. (accepted_parts _ _ (rw c.split_at_mut-one.ensures.value at c.requires.accepted)).1

pub share-returns : goal.share-returns
share-returns g t c =
    rw c.split_at_mut-one.ensures.value (changed_if_ok _ _ _ _ _ _ c.share_both.result c.share_both.ensures.one c.share_both.ensures.others)
