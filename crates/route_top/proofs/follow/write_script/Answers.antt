use Rattle.std.proofs.Common.{◌≡◌, [], ◌∷◌}
use Rattle.std.proofs.lemmas.Result.{err_from_is_err_and}
use Rattle.still_commands.proofs.FilesReadLemmas.{ends_at_files}
use Rattle.route_top.specs.Follow.{WriteEnd, WriteReplies}
use Rattle.route_top.proofs.FollowRuns.{ends_at_named, ends_over_named, stops_only}
use Rattle.route_top.proofs.FollowedScripts.{feed_cut, feed_sent}
use Rattle.route_top.proofs.follow.write_script.Goals as goal

pub returns-in_err-graph : goal.returns-in_err-graph
returns-in_err-graph g c =
    let p = err_from_is_err_and c.from_residual.result c.from_residual.ensures.1 in
    let stop = c.in_err-graph.ensures.read in
    rw (p.1, p.2) (ends_at_files (WriteEnd (g.F.Source.state c.args.folder.now).files c.args.asked.now) _ _ _ _ stop
    c.in_err-graph.ensures.folder)

pub returns-in_err-bytes : goal.returns-in_err-bytes
returns-in_err-bytes g c =
    let p = err_from_is_err_and c.from_residual-in_err-bytes.result c.from_residual-in_err-bytes.ensures.1 in
    let asked = c.args.asked.now in
    let read = c.in_ok-graph.ensures.read in
    rw (p.1, p.2) (ends_at_named (WriteReplies asked) asked.files (asked.operator ∷ []) _ _ _ _ read c.in_ok-graph.ensures.folder _
    (stops_only _ asked.operator (rw c.text-name.ensures at c.in_err-bytes.ensures.read)) c.in_err-bytes.ensures.folder)

pub returns-in_err-write_feed : goal.returns-in_err-write_feed
returns-in_err-write_feed g c =
    let p = err_from_is_err_and c.from_residual-in_err-write_feed.result c.from_residual-in_err-write_feed.ensures.1 in
    let asked = c.args.asked.now in
    let read = c.in_ok-graph.ensures.read in
    let script = c.in_ok-bytes.bytes.items in
    let from : c.link_of-link.result.from ≡ script = c.link_of-link.ensures.from in
    rw (p.1, p.2) (ends_over_named (WriteReplies asked) asked.files (asked.operator ∷ []) _ _ _ _ read c.in_ok-graph.ensures.folder
    (script ∷ []) _ _ _ (rw c.text-name.ensures at c.in_ok-bytes.ensures.read, tt) c.in_ok-bytes.ensures.folder
    (feed_cut asked _ _ c.in_ok-graph.ensures.matched script _ _ _ c.in_ok-bytes.ensures.read.short c.link_of-link.ensures.to _ _ _
    (rw from at c.in_err-write_feed.ensures)))

pub returns : goal.returns
returns g c =
    let asked = c.args.asked.now in
    let read = c.in_ok-graph.ensures.read in
    let script = c.in_ok-bytes.bytes.items in
    let from : c.link_of-link.result.from ≡ script = c.link_of-link.ensures.from in
    ends_over_named (WriteReplies asked) asked.files (asked.operator ∷ []) _ _ _ _ read c.in_ok-graph.ensures.folder
    (script ∷ []) _ _ _ (rw c.text-name.ensures at c.in_ok-bytes.ensures.read, tt) c.in_ok-bytes.ensures.folder
    (feed_sent asked _ _ c.in_ok-graph.ensures.matched script _ _ _ c.in_ok-bytes.ensures.read.short c.link_of-link.ensures.to _ _
    (rw from at c.in_ok-write_feed.ensures))
