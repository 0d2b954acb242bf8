use Rattle.std.proofs.Common.{refl}
use Rattle.std.proofs.lemmas.Result.{err_from_is_err_and}
use Rattle.still_commands.proofs.FilesReadLemmas.{ends_at_files, ends_over}
use Rattle.route_top.specs.Serve.{ServeReplies, asks, unasked}
use Rattle.route_top.proofs.ServeLemmas.{town_replies}
use Rattle.route_top.proofs.serve.run.Goals as goal

pub returns-in_err-graph-clause-runs : goal.returns-in_err-graph-clause-runs
returns-in_err-graph-clause-runs g c =
    let p = err_from_is_err_and c.from_residual.result c.from_residual.ensures.1 in
    let stop = c.in_err-graph.ensures.read in
    rw (p.1, p.2) (ends_at_files (λ net. ServeReplies c.args.asked.now) _ _ _ _ stop c.in_err-graph.ensures.folder)

pub returns-in_err-graph-clause-town : goal.returns-in_err-graph-clause-town
returns-in_err-graph-clause-town g c =
    let p = err_from_is_err_and c.from_residual.result c.from_residual.ensures.1 in
    let stop = c.in_err-graph.ensures.read in
    rw (p.1, p.2) (unasked stop refl refl)

pub returns-clause-runs : goal.returns-clause-runs
returns-clause-runs g c =
    let read = c.in_ok-graph.ensures.read in
    ends_over (λ net. ServeReplies c.args.asked.now) _ _ _ _ _ _ _ _ read c.in_ok-graph.ensures.folder
    (town_replies c.args.asked.now _ _ _ _ _ _ c.serve_town.ensures _)

pub returns-clause-town : goal.returns-clause-town
returns-clause-town g c =
    let read = c.in_ok-graph.ensures.read in
    asks _ read c.serve_town.ensures
