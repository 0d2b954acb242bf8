use Rattle.std.proofs.Common.{refl}
use Rattle.waiting_queue.proofs.ShadowLemmas.{descends_by_insert, joins_by_insert, loses_by_without}
use Rattle.waiting_queue.proofs.shadow.cast.Goals as goal

pub returns : goal.returns
returns g c =
    let f = g.C.StoredCost.components in record {
      joins = joins_by_insert f c.args.shadow.now.items c.uncover.new.shadow.items _ c.args.cost.now c.count_above-place.result
          (loses_by_without _ _ _ (rw c.floor.ensures.value at c.uncover.ensures.without)) c.in_ok-insert.ensures.items;
      descends = descends_by_insert f c.uncover.new.shadow.items (f c.args.cost.now) c.count_above-place.result
          (rw c.deref.ensures.value at c.count_above-place.ensures) c.args.cost.now refl
          c.uncover.ensures.descends _ c.in_ok-insert.ensures.items;
    }
