use Rattle.std.proofs.Common.{rules}
use Rattle.std.proofs.lemmas.Result.{err_from_is_err_and}
use Rattle.road_network.specs.declared.query.AnswerKind.TheVariants.{Walks}
use Rattle.session_core.specs.declared.mode.SearchMode.TheVariants.{Goal}
use Rattle.still_commands.specs.Queries.{QueryReplies}
use Rattle.still_commands.proofs.FilesReadLemmas.{ends_at_files, ends_over}
use Rattle.still_commands.proofs.QueryLemmas.{asked_unlimited}
use Rattle.still_commands.proofs.single.run_goal.Goals as goal

pub returns-in_err-graph : goal.returns-in_err-graph
returns-in_err-graph g c =
    let p = err_from_is_err_and c.from_residual.result c.from_residual.ensures.1 in
    let stop = c.in_err-graph.ensures.read in
    rw (p.1, p.2) (ends_at_files (QueryReplies Goal Walks c.args.asked.now.query) _ _ _ _ stop c.in_err-graph.ensures.folder)

pub reply_once-requires : goal.reply_once-requires
reply_once-requires g c = (search rules, (search rules, asked_unlimited _ c.query.result.now c.query.ensures.unlimited c.query.ensures.at_most))

pub returns : goal.returns
returns g c =
    let read = c.in_ok-graph.ensures.read in
    ends_over (QueryReplies Goal Walks c.args.asked.now.query) _ _ _ _ _ _ _ _ read c.in_ok-graph.ensures.folder (rw (c.new-network.ensures, c.query.ensures.query) at c.reply_once.ensures _)
