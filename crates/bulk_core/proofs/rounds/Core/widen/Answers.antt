use Rattle.std.proofs.Common.{map, sym, ap, ◌∙◌}
use Rattle.waiting_item.specs.Waiting.{spot_of}
use Rattle.bulk_core.proofs.KeptLemmas.{spots_of_items}
use Rattle.bulk_core.proofs.rounds.Core.widen.Goals as goal

pub invariant_of-result : goal.invariant_of-result
invariant_of-result g c =
    let fresh = rw c.deref.ensures.value at c.in_ok-widen_items.ensures in
    let items = rw c.deref-2.ensures.value at c.in_ok-widen_items-2.ensures in
    let taken = sym (spots_of_items g.F.Wide.Cost.StoredCost.components c.in_ok-widen_items-2.field-0.items) ∙ ap (map spot_of) items
    ∙ spots_of_items g.F.Cost.StoredCost.components c.self.inside.taken.items in
    rw (c.in_ok-widen.ensures, c.in_ok-widen-2.ensures, fresh, taken, items) c.self.invariant

pub returns : goal.returns
returns g c =
    let fresh = rw c.deref.ensures.value at c.in_ok-widen_items.ensures in
    let items = rw c.deref-2.ensures.value at c.in_ok-widen_items-2.ensures in
    let taken = sym (spots_of_items g.F.Wide.Cost.StoredCost.components c.in_ok-widen_items-2.field-0.items) ∙ ap (map spot_of) items
    ∙ spots_of_items g.F.Cost.StoredCost.components c.self.inside.taken.items in
    rw (c.in_ok-widen.ensures, c.in_ok-widen-2.ensures, fresh, taken) c.self.view_is
