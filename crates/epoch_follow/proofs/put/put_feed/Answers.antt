use Rattle.std.proofs.Common.{◌≡◌, ◌+◌, ◌-◌, length, take, ap, ◌∙◌, arith}
use Rattle.std.specs.List.{slice_range}
use Rattle.std.proofs.lemmas.Result.{err_from_is_err_and}
use Rattle.std.proofs.lemmas.List.{take_all}
use Rattle.route_io.proofs.SendsLemmas.{Sends-cut, Sends-then}
use Rattle.arc_graph.specs.History.{sets_of}
use Rattle.epoch_follow.specs.Text.{head_line, head_of, messages}
use Rattle.epoch_follow.proofs.put.put_feed.Goals as goal

pub returns-in_err-put_head : goal.returns-in_err-put_head
returns-in_err-put_head g c =
    let p = err_from_is_err_and c.from_residual.result c.from_residual.ensures.1 in
    let first = g.T.Store.origin.first in
    let css = sets_of c.args.operator.now.published in
    let cut = rw c.first-first.ensures at c.in_err-put_head.ensures in
    rw (p.1, p.2) (Sends-cut _ _ (head_line (head_of c.args.graph.now first)) (messages (first + 1) (slice_range css 0 (length css))) _ cut)

pub returns : goal.returns
returns g c =
    let first = g.T.Store.origin.first in
    let css = sets_of c.args.operator.now.published in
    let size : length css - 0 ≡ length css = omega arith in
    let all : slice_range css 0 (length css) ≡ css = ap (λ n. take n css) size ∙ take_all (length css) css (omega arith) in
    let head = rw c.first-first.ensures at c.in_ok-put_head.ensures in
    let sent = rw (c.first-first.ensures, c.sets.ensures) at c.put_messages.ensures in
    Sends-then _ _ _ (head_line (head_of c.args.graph.now first)) (messages (first + 1) (slice_range css 0 (length css))) c.put_messages.result head
    (rw all sent)
