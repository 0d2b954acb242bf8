use Rattle.std.proofs.Common.{ap, sym, ◌∙◌}
use Rattle.std.proofs.lemmas.Result.{IfOk-weaker}
use Rattle.waiting_queue.specs.Joining.{rest_of}
use Rattle.waiting_queue.specs.Ranges.{all_of}
use Rattle.waiting_queue.proofs.RangeLemmas.{joined_take}
use Rattle.waiting_queue.proofs.queue.pass_lists.Goals as goal

pub join_parts-requires-clause-parts : goal.join_parts-requires-clause-parts
join_parts-requires-clause-parts g c κs within = rw c.deref.ensures.value c.in_ok-pass_ranges.ensures.are

pub returns-clause-taken : goal.returns-clause-taken
returns-clause-taken g c =
    let passed = rw (sym c.deref.ensures.value) at c.in_ok-pass_ranges.ensures in
    IfOk-weaker c.list_rests.result _ _ (λ _ rest.
    let moved = rest ∙ ap rest_of (c.deref_mut.ensures.value ∙ sym c.deref.ensures.value) in rw moved
    (joined_take g.C.StoredCost.components (g.K.Look.IsOpen c.args.look.now) (all_of c.args.lists.now) c.deref.result.now
    c.join_parts.new.taken.items c.join_parts.new.back.items passed c.in_ok-join_parts.ensures)) c.list_rests.ensures

pub returns-clause-sorted : goal.returns-clause-sorted
returns-clause-sorted g c =
    let passed = rw (sym c.deref.ensures.value) at c.in_ok-pass_ranges.ensures in
    IfOk-weaker c.list_rests.result _ _ (λ _ rest.
    let moved = rest ∙ ap rest_of (c.deref_mut.ensures.value ∙ sym c.deref.ensures.value) in rw moved passed.sorted) c.list_rests.ensures
