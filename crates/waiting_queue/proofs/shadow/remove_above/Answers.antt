use Rattle.std.proofs.Common.{◌∙◌, rules}
use Rattle.std.proofs.lemmas.List.Filters.{FiltersInPlace-all}
use Rattle.std.proofs.lemmas.List.Kept.{AllPairs-filter}
use Rattle.waiting_queue.specs.Shadows.{FallsTo}
use Rattle.waiting_queue.proofs.ShadowLemmas.{filters_next, stays, without_by_filter}
use Rattle.waiting_queue.proofs.shadow.remove_above.Goals as goal

pub loop-i-preserved : goal.loop-i-preserved
loop-i-preserved g c =
    let f = g.C.StoredCost.components in
    rw c.from-kept.ensures (filters_next f (f c.args.low.now) c.loop-i.invariant (search rules) c.index.ensures c.at_most.result c.at_most.ensures)

pub returns : goal.returns
returns g c =
    let f = g.C.StoredCost.components in
    let low = f c.args.low.now in
    let all = c.truncate.ensures.items ∙ FiltersInPlace-all c.loop-i.invariant (search rules) in
    record {
      descends = rw all (AllPairs-filter (FallsTo f) (stays f low) c.args.shadow.now.items c.requires);
      without = rw all (without_by_filter f low c.args.shadow.now.items);
    }
