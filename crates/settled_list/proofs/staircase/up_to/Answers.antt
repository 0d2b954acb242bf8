use Rattle.std.proofs.Common.{◌≡◌, ◌-◌, ◌/◌, ◌⊎◌, ◌<◌, ◌≤◌, subst, arith}
use Rattle.std.proofs.lemmas.List.{length-map}
use Rattle.settled_front.proofs.Stairs.{halved}
use Rattle.settled_list.specs.Stairs.{as_pair}
use Rattle.settled_list.proofs.StairSearch.{pair_at}
use Rattle.settled_list.proofs.staircase.up_to.Goals as goal

pub loop-size-preserved : goal.loop-size-preserved
loop-size-preserved g c =
    let value = g.P.Part.value in
    let rests = c.args.rests.now in
    let t = value c.args.second in
    let end = c.loop-size.end in
    let half = c.loop-size.size - c.loop-size.size / 2 in
    let bit = c.less_bit.result in
    let cut = c.loop-size.invariant in
    let here = pair_at value rests c.requires.stairs (end - half) c.index-rests-end.result
    (omega (arith, cut.left, cut.within, c.loop-size-test.true, length-map rests (as_pair value))) in
    halved c.requires.stairs t end c.loop-size.size half bit cut (omega (arith, c.loop-size-test.true)) (omega arith) (omega arith)
    (subst (λ n. ((t < n) × (bit ≡ 1)) ⊎ ((n ≤ t) × (bit ≡ 0))) here.0 c.less_bit.ensures)
