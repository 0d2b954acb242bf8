use Rattle.round_work.proofs.GroupLemmas.{one_node_moved}
use Rattle.round_work.proofs.runs.merge_group.Goals as goal

pub keep_survivors-requires-clause-one_node : goal.keep_survivors-requires-clause-one_node
keep_survivors-requires-clause-one_node g c =
    rw c.deref.ensures.value (one_node_moved c.args.group.now c.list_sorted.new.list.items c.in_ok-list_sorted.ensures.same c.requires)
