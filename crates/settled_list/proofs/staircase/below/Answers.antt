use Rattle.std.proofs.Common.{◌-◌, ◌<◌, length, arith}
use Rattle.std.proofs.lemmas.Bool.{iff_false}
use Rattle.std.proofs.lemmas.List.{length-map}
use Rattle.settled_list.specs.Stairs.{as_pair}
use Rattle.settled_list.proofs.StairSearch.{below_all, below_last, pair_at}
use Rattle.settled_list.proofs.staircase.below.Goals as goal
use Rattle.settled_list.proofs.staircase.below.Goals.{else-place-gt0-via-then-place-gt0+else-is_at_most, else-place-gt0-via-else-place-gt0}

pub returns-then-is_at_most-clause-cut : goal.returns-then-is_at_most-clause-cut
returns-then-is_at_most-clause-cut g c =
    let value = g.P.Part.value in
    below_last value c.args.rests.now c.requires.stairs (value c.args.second) c.up_to-place.result c.up_to-place.ensures c.index-rests-place.result
    c.if-place-gt0.true (c.is_at_most.ensures.0 c.if-is_at_most.true)

pub returns-clause-cut : goal.returns-clause-cut
returns-clause-cut g c =
    let value = g.P.Part.value in
    let rests = c.args.rests.now in
    let place = c.up_to-place.result in
    let cut = c.up_to-place.ensures in
    below_all value rests c.requires.stairs (value c.args.second) place cut (λ some. elim c.else-place-gt0.branch [
      | else-place-gt0-via-then-place-gt0+else-is_at_most w ↦
          let inside : place - 1 < length rests = omega (arith, some, cut.within, length-map rests (as_pair value)) in
          omega (arith, (pair_at value rests c.requires.stairs (place - 1) w.index-rests-place.result inside).0, iff_false w.is_at_most.ensures w.if-is_at_most.false)
      | else-place-gt0-via-else-place-gt0 w ↦ absurd (omega (arith, some, w.if-place-gt0.false))
    ])
