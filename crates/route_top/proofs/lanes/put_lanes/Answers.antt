use Rattle.std.proofs.Common.{◌<◌, ◌≤◌, arith, length, map}
use Rattle.std.proofs.lemmas.List.{length-map}
use Rattle.std.proofs.lemmas.List.FromFn.{length-range_with_len}
use Rattle.std.proofs.lemmas.Result.{err_from_is_err_and}
use Rattle.route_top.proofs.LanesSent.{next_number, numbers, part_is, part_of, within_numbers}
use Rattle.route_top.proofs.SentFirst.{all_sent, cut_at, more_sent}
use Rattle.route_top.proofs.lanes.put_lanes.Goals as goal

pub loop-place-preserved : goal.loop-place-preserved
loop-place-preserved g c =
    let replies = map (λ link. link.to.sent) c.args.links.now in
    let n = c.loop-place.place in
    let there : n < length c.args.links.now = omega (arith, c.loop-place-test.true, c.loop-place.auto.place-end) in
    let within : n < length replies = omega (arith, there, length-map c.args.links.now (λ link. link.to.sent)) in
    let part = part_is (λ link. link.to.sent) c.args.first c.args.links.now n c.index-links-place.result there c.index-links-place.is in
    more_sent (part_of c.args.first replies) (numbers replies) n 0 n (within_numbers replies n within) (next_number replies n within) _ _ _ c.loop-place.invariant
    (rw part at c.in_ok-put_lane.ensures)

pub returns-in_err-put_lane : goal.returns-in_err-put_lane
returns-in_err-put_lane g c =
    let p = err_from_is_err_and c.from_residual.result c.from_residual.ensures.1 in
    let replies = map (λ link. link.to.sent) c.args.links.now in
    let n = c.loop-place.place in
    let there : n < length c.args.links.now = omega (arith, c.loop-place-test.true, c.loop-place.auto.place-end) in
    let within : n < length replies = omega (arith, there, length-map c.args.links.now (λ link. link.to.sent)) in
    let part = part_is (λ link. link.to.sent) c.args.first c.args.links.now n c.index-links-place.result there c.index-links-place.is in
    rw (p.1, p.2) (cut_at (part_of c.args.first replies) (numbers replies) n 0 n (within_numbers replies n within) (next_number replies n within) _ _ _
    c.loop-place.invariant _ (rw part at c.in_err-put_lane.ensures))

pub returns : goal.returns
returns g c =
    let replies = map (λ link. link.to.sent) c.args.links.now in
    let past : length (numbers replies) ≤ c.loop-place.place = omega (
      arith,
      c.loop-place-test.false,
      c.loop-place.auto.place-end,
      length-map c.args.links.now (λ link. link.to.sent),
      length-range_with_len 0 (length replies),
    ) in
    all_sent (part_of c.args.first replies) (numbers replies) c.loop-place.place _ _ past c.loop-place.invariant
