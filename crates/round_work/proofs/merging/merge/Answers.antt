use Rattle.std.proofs.Common.{◌≡◌, length, drop, arith, ◌∙◌}
use Rattle.std.proofs.lemmas.List.{take_at}
use Rattle.rayon.proofs.ListFacts.{IfOk-then}
use Rattle.waiting_item.specs.Waiting.{as_waiting, spot_in, spot_of}
use Rattle.round_work.proofs.SurvivorLemmas.{keeps_moved, keeps_survivors, keeps_told}
use Rattle.round_work.proofs.merging.merge.Goals as goal

pub returns : goal.returns
returns g c =
    let parts = g.C.StoredCost.components in
    let Open = g.K.Look.IsOpen c.args.look.now in
    let old = c.args.candidates.now in
    let sorted = c.sort_by_node.new.candidates in
    let long : length sorted ≡ old.len = omega (arith, c.deref_mut.ensures.len, c.sort_by_node.auto.candidates) in
    let is_sorted = c.deref.ensures.value ∙ take_at sorted (drop (length sorted) old.items) old.len long in
    let moved = rw (c.deref_mut.ensures.value, ← is_sorted) at c.sort_by_node.ensures.permutation in
    IfOk-then c.append_all.result _ _ c.append_all.ensures (λ u is.
    keeps_survivors spot_of Open _ _ (keeps_told spot_of (as_waiting parts) Open old.items c.append_all.new.all.items
    (rw (is, c.clear.ensures.items, c.deref-2.ensures.value) (keeps_moved (spot_in parts) Open old.items c.deref.result.now _ moved c.in_ok-lists.ensures))))
