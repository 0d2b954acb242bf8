use Rattle.round_work.proofs.GroupLemmas.{cutting_more}
use Rattle.round_work.proofs.groups.list_groups.Goals as goal

pub loop-rest-preserved : goal.loop-rest-preserved
loop-rest-preserved g c = cutting_more c.args.candidates.now c.loop-rest.groups.items c.push.new.self.items c.loop-rest.rest.now
    c.split_group.result.1.now c.split_group.result.0 c.in_ok-push.ensures.items c.loop-rest.invariant c.split_group.ensures
