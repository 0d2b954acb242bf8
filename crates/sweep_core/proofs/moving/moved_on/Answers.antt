use Rattle.std.proofs.Common.{◌-◌, ◌^◌, ◌<◌, get_or, refl, sym, subst, arith}
use Rattle.std.proofs.Math.Facts.{Fits-of_lt}
use Rattle.std.proofs.lemmas.List.Elements.{All-get_or}
use Rattle.sweep_core.proofs.CostLemmas.{cost_long, less_fits, moved_more, moved_sum, own_fits}
use Rattle.sweep_core.proofs.moving.moved_on.Goals as goal

pub loop-i-init : goal.loop-i-init
loop-i-init g c = record {
  long = cost_long g.row.D c.args.cost.now.0 c.args.own.now c.requires.parts.0 c.requires.own c.requires.parts.1 c.requires.parts.2;
  moved = λ k below. omega (arith, below);
  others = λ k above. refl;
}

pub overflow_sub-components : goal.overflow_sub-components
overflow_sub-components g c =
    let fits = own_fits g.row.D c.args.cost.now.0 c.args.own.now c.requires.parts.0 c.requires.own c.requires.parts.1 c.requires.parts.2 c.requires.parts.3
    c.loop-i.i c.loop-i-test.true in
    omega (arith, fits, c.component-in-loop-i-2.ensures, c.loop-i.invariant.others c.loop-i.i (omega arith))

pub overflow_add-components : goal.overflow_add-components
overflow_add-components g c =
    let parts = c.requires.parts in let i = c.loop-i.i in
    let fits = own_fits g.row.D c.args.cost.now.0 c.args.own.now parts.0 c.requires.own parts.1 parts.2 parts.3 i c.loop-i-test.true in
    let here = c.loop-i.invariant.others i (omega arith) in
    let less = less_fits g.row.D c.args.cost.now.0 c.args.own.now parts.0 c.requires.own parts.1 parts.2 parts.3 i c.loop-i-test.true
    (get_or c.loop-i.components i 0 - c.component-in-loop-i-2.result) (omega (arith, here, fits, c.component-in-loop-i-2.ensures)) in
    let height : c.component-in-loop-i.result < 2 ^ 55 =
    subst (λ x. x < 2 ^ 55) (sym c.component-in-loop-i.ensures)
    (All-get_or (λ x. x < 2 ^ 55) c.args.height.now i 0 (omega (arith, c.loop-i-test.true, c.requires.height)) c.requires.small) in
    Fits-of_lt (omega (arith, less, height, c.from.type_inv, c.from.ensures, c.component.type_inv))

pub loop-i-preserved : goal.loop-i-preserved
loop-i-preserved g c =
    let parts = c.requires.parts in let i = c.loop-i.i in
    let fits = own_fits g.row.D c.args.cost.now.0 c.args.own.now parts.0 c.requires.own parts.1 parts.2 parts.3 i c.loop-i-test.true in
    moved_more g.row.D c.args.cost.now.0 c.args.own.now c.args.by.now c.args.height.now i _ c.loop-i.components c.loop-i.invariant c.loop-i-test.true
    (omega (arith, fits, c.loop-i.invariant.others i (omega arith), c.component-in-loop-i-2.ensures, c.component-in-loop-i.ensures, c.from.ensures, c.component.ensures))

pub returns : goal.returns
returns g c = λ cost long sum.
    moved_sum g.row.D c.args.cost.now.0 c.args.own.now cost c.requires.own long sum c.args.by.now c.args.height.now c.loop-i.components c.requires.by
    c.requires.height c.loop-i.invariant.long (λ k within. c.loop-i.invariant.moved k (omega (arith, within, c.loop-i-test.false)))
