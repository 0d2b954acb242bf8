use Rattle.std.proofs.Common.{◌++◌, arith, length-append}
use Rattle.std.proofs.lemmas.Result.{err_from_is_err_and}
use Rattle.command_words.specs.Words.{feeds_of, sessions_of}
use Rattle.route_top.proofs.FollowRuns.{starves_first, stops_first, stops_later}
use Rattle.route_top.proofs.NumberedFiles.{count_numbered}
use Rattle.route_top.proofs.follow.read_all.Goals as goal

pub returns-in_err-feeds-clause-stopped : goal.returns-in_err-feeds-clause-stopped
returns-in_err-feeds-clause-stopped g c =
    let p = err_from_is_err_and c.from_residual.result c.from_residual.ensures.1 in
    let asked = c.args.asked.now in
    rw (p.1, p.2) (stops_first _ (feeds_of asked) (sessions_of asked)
    (rw (c.text.ensures, c.get.ensures.value) at c.in_err-feeds.ensures.stopped))

pub returns-in_err-scripts-clause-stopped : goal.returns-in_err-scripts-clause-stopped
returns-in_err-scripts-clause-stopped g c =
    let p = err_from_is_err_and c.from_residual-in_err-scripts.result c.from_residual-in_err-scripts.ensures.1 in
    let asked = c.args.asked.now in
    rw (p.1, p.2) (stops_later _ (feeds_of asked) (sessions_of asked) _
    (rw (c.text.ensures, c.get.ensures.value) at c.in_ok-feeds.ensures.read)
    (rw (c.text-2.ensures, c.get-2.ensures.value, c.in_ok-feeds.ensures.folder.files) at c.in_err-scripts.ensures.stopped))

pub returns-in_err-links-clause-stopped : goal.returns-in_err-links-clause-stopped
returns-in_err-links-clause-stopped g c =
    let p = err_from_is_err_and c.from_residual-in_err-links.result c.from_residual-in_err-links.ensures.1 in
    let asked = c.args.asked.now in
    let feeds = feeds_of asked in
    rw (p.1, p.2) (starves_first _ (feeds ++ sessions_of asked)
    (omega (arith, length-append feeds (sessions_of asked), count_numbered asked.feeds asked.links)))
