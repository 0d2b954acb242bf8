use Rattle.std.proofs.Common.{◌<◌, ◌≤◌, arith, length}
use Rattle.std.proofs.lemmas.Result.{err_from_is_err_and}
use Rattle.route_top.proofs.FeedLines.{all_lines_sent, lines_cut, more_lines_sent}
use Rattle.route_top.proofs.follow.put_feeds.Goals as goal

pub loop-place-preserved : goal.loop-place-preserved
loop-place-preserved g c =
    let reports = c.args.reports.now in
    let n = c.loop-place.place in
    let within : n < length reports = omega (arith, c.loop-place-test.true, c.loop-place.auto.place-end) in
    more_lines_sent reports n _ within _ _ _ c.loop-place.invariant c.in_ok-put_feed_line.ensures

pub returns-in_err-put_feed_line : goal.returns-in_err-put_feed_line
returns-in_err-put_feed_line g c =
    let p = err_from_is_err_and c.from_residual.result c.from_residual.ensures.1 in
    let reports = c.args.reports.now in
    let n = c.loop-place.place in
    let within : n < length reports = omega (arith, c.loop-place-test.true, c.loop-place.auto.place-end) in
    rw (p.1, p.2) (lines_cut reports n _ within _ _ _ _ c.loop-place.invariant c.in_err-put_feed_line.ensures)

pub returns : goal.returns
returns g c =
    let past : length c.args.reports.now ≤ c.loop-place.place = omega (arith, c.loop-place-test.false, c.loop-place.auto.place-end) in
    all_lines_sent c.args.reports.now c.loop-place.place _ _ past c.loop-place.invariant
