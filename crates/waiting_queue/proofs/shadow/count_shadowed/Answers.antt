use Rattle.std.proofs.Common.{rules}
use Rattle.waiting_queue.proofs.ShadowLemmas.{run_ends, run_next, run_on, run_over}
use Rattle.waiting_queue.proofs.shadow.count_shadowed.Goals as goal

pub returns-in_default-get : goal.returns-in_default-get
returns-in_default-get g c =
    let count = c.count_dominated-count.ensures in
    let is = run_on g.C.StoredCost.components c.loop-item.invariant.1 _ c.loop-item.invariant.0 _ c.split_at.ensures.back _ count.within count.dominated in
    run_over g.C.StoredCost.components is (search rules)

pub returns-in_default-find_shadowing : goal.returns-in_default-find_shadowing
returns-in_default-find_shadowing g c =
    let count = c.count_dominated-count.ensures in
    let is = run_on g.C.StoredCost.components c.loop-item.invariant.1 _ c.loop-item.invariant.0 _ c.split_at.ensures.back _ count.within count.dominated in
    run_ends g.C.StoredCost.components is _ c.in-Some-get.ensures.lookup.3.0 c.in-Some-get.ensures.lookup.1 (search rules)

pub loop-item-preserved : goal.loop-item-preserved
loop-item-preserved g c =
    let count = c.count_dominated-count.ensures in
    let is = run_on g.C.StoredCost.components c.loop-item.invariant.1 _ c.loop-item.invariant.0 _ c.split_at.ensures.back _ count.within count.dominated in (
      c.in-Some-find_shadowing.ensures.listed,
      run_next g.C.StoredCost.components is _ c.in-Some-get.ensures.lookup.3.0 c.in-Some-get.ensures.lookup.1
          (record { by = _; contains = c.in-Some-find_shadowing.ensures.listed; dominates = c.in-Some-find_shadowing.ensures.dominates }),
    )
