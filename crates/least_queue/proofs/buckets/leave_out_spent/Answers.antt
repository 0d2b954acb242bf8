use Rattle.std.proofs.Common.{◌≡◌, ◌<◌, length, sym, subst, ◌∙◌, arith}
use Rattle.std.specs.Prelude.{Contains}
use Rattle.std.proofs.lemmas.List.{get_or_default}
use Rattle.std.proofs.lemmas.List.Elements.{All-contains, All-get_or}
use Rattle.std.proofs.lemmas.List.Sorted.{IsPermutation-swap_remove}
use Rattle.waiting_item.specs.Waiting.{spot_in}
use Rattle.least_queue.proofs.SpentLemmas.{leaves_none, leaves_one}
use Rattle.least_queue.proofs.buckets.leave_out_spent.Goals as goal

pub loop-kept-init : goal.loop-kept-init
loop-kept-init g c = leaves_none g.C.StoredCost.components (g.K.Look.IsSpent c.args.look.now) c.args.entries.now.items

pub is_spent-requires : goal.is_spent-requires
is_spent-requires g c =
    let entries = c.loop-kept.entries.items in
    let within : c.loop-kept.kept < length entries = omega (arith, c.loop-kept-test.true, c.len.ensures) in
    let there = All-get_or (Contains c.args.entries.now.items) entries c.loop-kept.kept c.index.result.now within c.loop-kept.invariant.old in
    All-contains (λ e. g.K.Look.allows c.args.look.now (spot_in g.C.StoredCost.components e.0)) c.args.entries.now.items c.index.result.now c.requires
    (subst (Contains c.args.entries.now.items) (sym c.index.ensures) there)

pub loop-kept-preserved-then-is_spent : goal.loop-kept-preserved-then-is_spent
loop-kept-preserved-then-is_spent g c =
    let entries = c.loop-kept.entries.items in
    let kept = c.loop-kept.kept in
    let e = c.swap_remove.result in
    let spent_now = g.K.Look.IsSpent c.args.look.now in
    let within : kept < length entries = omega (arith, c.loop-kept-test.true, c.len.ensures) in
    let same : c.index.result.now ≡ e = c.index.ensures ∙ get_or_default entries kept c.index.result.now e within ∙ sym c.swap_remove.ensures.value in
    let spent = subst (λ x. spent_now (spot_in g.C.StoredCost.components x.0)) same (c.is_spent.ensures.0 c.if-is_spent.true) in
    rw c.swap_remove.ensures.items
    (leaves_one g.C.StoredCost.components spent_now c.args.entries.now.items entries kept e _ c.loop-kept.invariant within
    (IsPermutation-swap_remove entries kept e within c.swap_remove.ensures.value) spent)
