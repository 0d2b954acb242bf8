use Rattle.std.proofs.Common.{rules, Err, sym, ap, ◌∙◌}
use Rattle.bulk_core.specs.Settled.{IsSpentBy}
use Rattle.bulk_core.proofs.KeptLemmas.{spots_of_items}
use Rattle.bulk_search.proofs.OnwardLemmas.{closed_is_spent, ends_over, items_at_nodes, kept_items, too_wide_below}
use Rattle.bulk_search.proofs.rounds.WidthRounds.finish.Goals as goal

pub relax_and_merge-requires-clause-nodes : goal.relax_and_merge-requires-clause-nodes
relax_and_merge-requires-clause-nodes g c κs within =
    items_at_nodes _ c.args.network.now c.args.self.now.core c.taken-taken.result.now c.requires.is_open c.taken-taken.ensures.spots

pub returns-in_err-relax_and_merge-clause-narrow : goal.returns-in_err-relax_and_merge-clause-narrow
returns-in_err-relax_and_merge-clause-narrow g c = λ wide.
    let came = c.in_err-relax_and_merge.was ∙ ap (λ e. Err e) (sym (rw wide at c.from_residual.ensures.1)) in
    too_wide_below c.args.network.now c.nodes.ensures.network.small c.args.self.now.core c.requires.is_open _
    (spots_of_items _ c.taken-taken.result.now ∙ c.taken-taken.ensures.spots) _ (c.relax_and_merge.ensures.too_wide came)

pub finish-requires : goal.finish-requires
finish-requires g c =
    let kept = kept_items c.args.network.now c.nodes.ensures.network.network c.args.self.now.core c.requires.is_open _
    (spots_of_items _ c.taken-taken.result.now ∙ c.taken-taken.ensures.spots) c.taken-taken.ensures.from _ _ c.in_ok-relax_and_merge.ensures.kept in
    (search rules, rw c.deref.ensures.value kept)

pub returns-clause-ended : goal.returns-clause-ended
returns-clause-ended g c =
    let core = c.args.self.now.core in
    ends_over c.args.network.now c.nodes.ensures.network.network core c.requires.is_open _
    (spots_of_items _ c.taken-taken.result.now ∙ c.taken-taken.ensures.spots) c.taken-taken.ensures.from
    _ (closed_is_spent core (IsSpentBy c.settled-settled.result.now) c.settled-settled.ensures)
    _ c.finish.new.self c.in_ok-relax_and_merge.ensures.kept (rw c.deref.ensures.value at c.in_ok-finish.ensures.put)
