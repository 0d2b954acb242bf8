use Rattle.std.proofs.Common.{◌≡◌, length, sym, ◌∙◌, arith}
use Rattle.std.proofs.lemmas.Bool.{false≢true}
use Rattle.std.proofs.lemmas.List.{take_rest}
use Rattle.round_work.proofs.GroupLemmas.{adds_next}
use Rattle.round_work.proofs.runs.keep_survivors.Goals.{then-not-has_below+then-is_open+in_ok-push, else-not-has_below, else-not-has_below-via-then-not-has_below+else-is_open, else-not-has_below-via-else-not-has_below}
use Rattle.round_work.proofs.runs.keep_survivors.Goals as goal

pub loop-item-preserved : goal.loop-item-preserved
loop-item-preserved g c =
    let long : c.len-first.result ≡ length c.args.kept.now.items = omega (arith, c.len-first.ensures, c.args.kept.now.ok) in
    let tells = rw (take_rest c.deref.result.now c.len-first.result, c.deref.ensures.value, long) at c.has_below.ensures in
    let next = adds_next g.C.StoredCost.components (g.K.Look.IsOpen c.args.look.now) c.args.sorted.now c.requires.sorted c.loop-item.item-index
    c.item-item.result c.loop-item-test.true c.item-item.is c.args.kept.now.items c.loop-item.kept.items c.loop-item.invariant c.requires.one_node in
    elim c.if-not-has_below.branch [
      | then-not-has_below+then-is_open+in_ok-push w ↦
          rw (w.kept-is, w.in_ok-push.ensures.items) (next.0 (w.is_open.ensures.0 w.if-is_open.true) (tells.none w.if-not-has_below.true))
      | else-not-has_below w ↦ rw w.kept-is (elim w.else-not-has_below.branch [
        | else-not-has_below-via-then-not-has_below+else-is_open w' ↦ next.1 (λ held. false≢true (sym w'.if-is_open.false ∙ w'.is_open.ensures.1 held))
        | else-not-has_below-via-else-not-has_below w' ↦ next.2 (tells.some w'.if-not-has_below.false)
      ])
    ]
