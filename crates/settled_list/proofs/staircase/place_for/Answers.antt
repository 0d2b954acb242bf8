use Rattle.std.proofs.Common.{arith}
use Rattle.std.proofs.lemmas.Bool.{iff_false}
use Rattle.settled_list.proofs.StairSearch.{pair_at, place_from}
use Rattle.settled_list.proofs.staircase.place_for.Goals as goal

pub returns-else-is_at_most : goal.returns-else-is_at_most
returns-else-is_at_most g c =
    let value = g.P.Part.value in
    let rests = c.args.rests.now in
    let start = c.below-start.result in
    let end = c.loop-end.end in
    let known = c.below-start.ensures in
    let loop = c.loop-end.invariant in
    let is = pair_at value rests c.requires.stairs end c.index-rests-end.result c.loop-end-test.true in
    place_from value rests c.requires.stairs c.args.rest.now start end loop.0 loop.1.0 known.cut loop.1.1
    (λ more. omega (arith, is.1, iff_false c.is_at_most.ensures c.if-is_at_most.false))

pub returns-after-loop-end : goal.returns-after-loop-end
returns-after-loop-end g c =
    let known = c.below-start.ensures in
    let loop = c.loop-end.invariant in
    place_from g.P.Part.value c.args.rests.now c.requires.stairs c.args.rest.now c.below-start.result c.loop-end.end loop.0 loop.1.0 known.cut loop.1.1
    (λ more. absurd (omega (arith, more, c.loop-end-test.false)))
