use Rattle.std.proofs.Common.{sym, refl, take_all, ◌∙◌, arith}
use Rattle.std.proofs.lemmas.Bool.{false≢true}
use Rattle.waiting_item.specs.declared.item.Item.{Item}
use Rattle.round_work.proofs.OnwardLemmas.{arc_next, arc_too_wide}
use Rattle.round_work.proofs.pieces.relax_into.Goals.{in-Some+in-Some-plus+in_ok-push, in_default}
use Rattle.round_work.proofs.pieces.relax_into.Goals as goal

pub returns-in_default-plus-clause-too_wide : goal.returns-in_default-plus-clause-too_wide
returns-in_default-plus-clause-too_wide g c = λ e.
    let item = c.args.item.now in
    rw (sym c.out_arcs-arcs.ensures) (arc_too_wide c.args.network.now item.from.0 item.node.0 _ _ c.out_arcs-arcs.result.now _ (record { 0 = 0 }) _
    c.loop-arc-test.true (sym c.weight.ensures.state ∙ c.in-Some.is) (grind (arith, c.head-head.ensures, c.eq.ensures, c.if-eq.false))
    (λ all. false≢true (c.in_default-plus.ensures.fits.1 all)))

pub loop-arc-preserved : goal.loop-arc-preserved
loop-arc-preserved g c =
    let item = c.args.item.now in
    let next = arc_next g.C.StoredCost.components g.C.Part.Part.bound c.args.network.now item.from.0 item.node.0 (g.C.StoredCost.components item.cost)
    c.out_arcs-arcs.result.now c.loop-arc.arc-index (record { 0 = 0 }) c.loop-arc-test.true c.args.candidates.now.items c.loop-arc.candidates.items
    c.loop-arc.invariant in
    elim c.match-weight.branch [
      | in-Some+in-Some-plus+in_ok-push w ↦
          let made : Item g.row.C.Denot = record { cost = w.in-Some-plus.cost; node = c.head-head.result; from = item.node } in
          rw (w.candidates-is, w.in_ok-push.ensures.items)
          (next.1 w.in-Some.weight made (sym c.weight.ensures.state ∙ w.in-Some.is) (grind (arith, c.head-head.ensures, c.eq.ensures, c.if-eq.false))
          w.in-Some-plus.ensures.sum c.head-head.ensures refl (w.in-Some-plus.ensures.fits.0 refl))
      | in_default w ↦ rw w.candidates-is (next.0 (sym c.weight.ensures.state ∙ w.in_default.is))
    ]

pub returns-clause-appends : goal.returns-clause-appends
returns-clause-appends g c =
    rw (sym c.out_arcs-arcs.ensures, sym (take_all c.loop-arc.arc-index c.out_arcs-arcs.result.now (omega (arith, c.loop-arc-test.false))))
    c.loop-arc.invariant
