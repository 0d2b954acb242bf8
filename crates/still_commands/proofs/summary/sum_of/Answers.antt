use Rattle.std.proofs.Common.{◌∙◌, ◌+◌, ◌<◌, ap, arith, length, sum}
use Rattle.std.proofs.lemmas.List.{take_all}
use Rattle.still_commands.proofs.CountLemmas.{sum_of_more, sum_of_part}
use Rattle.still_commands.proofs.summary.sum_of.Goals as goal

pub overflow_add-total : goal.overflow_add-total
overflow_add-total c =
    let within : c.loop-i.i < length c.args.cost.now = omega (arith, c.loop-i-test.true, c.count-i-end.ensures.value) in
    omega (
      arith,
      c.loop-i.invariant,
      c.component-total.ensures,
      sum_of_more c.args.cost.now c.loop-i.i within,
      sum_of_part c.args.cost.now (c.loop-i.i + 1),
      c.requires,
    )

pub loop-i-preserved : goal.loop-i-preserved
loop-i-preserved c =
    let within : c.loop-i.i < length c.args.cost.now = omega (arith, c.loop-i-test.true, c.count-i-end.ensures.value) in
    omega (arith, c.loop-i.invariant, c.component-total.ensures, sum_of_more c.args.cost.now c.loop-i.i within)

pub returns : goal.returns
returns c = c.loop-i.invariant ∙ ap sum (take_all c.loop-i.i c.args.cost.now (omega (arith, c.loop-i-test.false, c.count-i-end.ensures.value)))
