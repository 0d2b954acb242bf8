use Rattle.std.proofs.Common.{get_or, ap}
use Rattle.round_work.proofs.GroupLemmas.{splits_group}
use Rattle.round_work.proofs.groups.split_group.Goals as goal

pub returns : goal.returns
returns g c =
    let list = c.args.candidates.now in
    splits_group list c.requires.ascending (get_or list 0 c.index-candidates-0.result) c.requires.some (ap (get_or list 0) c.index-candidates-0.is)
    c.leading.result c.leading.ensures.within c.leading.ensures.at_node c.leading.ensures.no_more _ _ c.split_at.ensures.front c.split_at.ensures.back
