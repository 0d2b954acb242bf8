use Rattle.std.proofs.Common.{ap, arith, length, refl, ◌++◌, ◌∙◌}
use Rattle.std.proofs.lemmas.Result.{err_from_is_err_and}
use Rattle.route_io.specs.declared.link.Link.{Link}
use Rattle.route_io.specs.declared.sure.SureSink.{SureSink}
use Rattle.route_io.specs.declared.sure.SureSource.{SureSource}
use Rattle.command_words.specs.Words.{feeds_of, sessions_of}
use Rattle.still_commands.proofs.FilesReadLemmas.{ends_at_files}
use Rattle.still_commands.proofs.RunsLemmas.{starves}
use Rattle.route_top.specs.Follow.{TakeEnd, TakeReplies}
use Rattle.route_top.proofs.FollowRuns.{ends_at_named, ends_over_named, says_append, sends_part, sends_whole}
use Rattle.route_top.proofs.FollowedScripts.{count_feeds, followed_over}
use Rattle.route_top.proofs.LanesRuns.{all_short, count_links, of_front, of_scripts}
use Rattle.route_top.proofs.NumberedFiles.{count_numbered}
use Rattle.route_top.proofs.follow.take_feeds.Goals as goal

-- a link in memory that never fails
abbrev SureLink : Type 0
SureLink = Link SureSource SureSink

pub returns-in_err-graph : goal.returns-in_err-graph
returns-in_err-graph g c =
    let p = err_from_is_err_and c.from_residual.result c.from_residual.ensures.1 in
    let stop = c.in_err-graph.ensures.read in
    rw (p.1, p.2) (ends_at_files (TakeEnd (g.F.Source.state c.args.folder.now).files c.args.asked.now) _ _ _ _ stop
    c.in_err-graph.ensures.folder)

pub read_all-requires-clause-feeds : goal.read_all-requires-clause-feeds
read_all-requires-clause-feeds g c =
    let asked = c.args.asked.now in
    of_scripts g.F.Folder.admits asked.files (feeds_of asked)
    (of_front g.F.Folder.admits (asked.files ++ feeds_of asked) (sessions_of asked) c.requires)

pub read_all-requires-clause-sessions : goal.read_all-requires-clause-sessions
read_all-requires-clause-sessions g c =
    let asked = c.args.asked.now in
    of_scripts g.F.Folder.admits (asked.files ++ feeds_of asked) (sessions_of asked) c.requires

pub returns-in_err-feeds : goal.returns-in_err-feeds
returns-in_err-feeds g c =
    let p = err_from_is_err_and c.from_residual-in_err-feeds.result c.from_residual-in_err-feeds.ensures.1 in
    let asked = c.args.asked.now in
    let read = c.in_ok-graph.ensures.read in
    rw (p.1, p.2) (ends_at_named (TakeReplies asked) asked.files (feeds_of asked ++ sessions_of asked) _ _ _ _ read c.in_ok-graph.ensures.folder _
    c.in_err-feeds.ensures.stopped c.in_err-feeds.ensures.folder)

pub run_follow-requires-clause-some_session : goal.run_follow-requires-clause-some_session
run_follow-requires-clause-some_session g c =
    let asked = c.args.asked.now in
    let links = count_links {L = SureLink} (λ l. l.from) (g.F.Source.state c.read_network.new.folder).files (sessions_of asked)
    c.in_ok-feeds.links.items c.in_ok-feeds.ensures.sessions in
    omega (arith, links, count_numbered asked.stem asked.count, ap length c.deref_mut-2.ensures.value)

pub run_follow-requires-clause-at_most_16_sessions : goal.run_follow-requires-clause-at_most_16_sessions
run_follow-requires-clause-at_most_16_sessions g c =
    let asked = c.args.asked.now in
    let links = count_links {L = SureLink} (λ l. l.from) (g.F.Source.state c.read_network.new.folder).files (sessions_of asked)
    c.in_ok-feeds.links.items c.in_ok-feeds.ensures.sessions in
    omega (arith, links, count_numbered asked.stem asked.count, ap length c.deref_mut-2.ensures.value)

pub returns-in_err-report : goal.returns-in_err-report
returns-in_err-report g c =
    let p = err_from_is_err_and c.from_residual-in_err-report.result c.from_residual-in_err-report.ensures.1 in
    let asked = c.args.asked.now in
    let read = c.in_ok-graph.ensures.read in
    let says = says_append _ (feeds_of asked) (sessions_of asked) _ _ c.in_ok-feeds.ensures.feeds c.in_ok-feeds.ensures.sessions in
    rw (p.1, p.2) (ends_over_named (TakeReplies asked) asked.files (feeds_of asked ++ sessions_of asked) _ _ _ _ read c.in_ok-graph.ensures.folder
    _ _ _ _ says c.in_ok-feeds.ensures.folder (starves (TakeReplies asked _ _) _ refl))

pub returns-in_err-feeds_sufficed : goal.returns-in_err-feeds_sufficed
returns-in_err-feeds_sufficed g c =
    let p = err_from_is_err_and c.from_residual-in_err-feeds_sufficed.result c.from_residual-in_err-feeds_sufficed.ensures.1 in
    let asked = c.args.asked.now in
    let read = c.in_ok-graph.ensures.read in
    let says = says_append _ (feeds_of asked) (sessions_of asked) _ _ c.in_ok-feeds.ensures.feeds c.in_ok-feeds.ensures.sessions in
    rw (p.1, p.2) (ends_over_named (TakeReplies asked) asked.files (feeds_of asked ++ sessions_of asked) _ _ _ _ read c.in_ok-graph.ensures.folder
    _ _ _ _ says c.in_ok-feeds.ensures.folder (starves (TakeReplies asked _ _) _ refl))

pub returns-in_err-memory_sufficed : goal.returns-in_err-memory_sufficed
returns-in_err-memory_sufficed g c =
    let p = err_from_is_err_and c.from_residual-in_err-memory_sufficed.result c.from_residual-in_err-memory_sufficed.ensures.1 in
    let asked = c.args.asked.now in
    let read = c.in_ok-graph.ensures.read in
    let says = says_append _ (feeds_of asked) (sessions_of asked) _ _ c.in_ok-feeds.ensures.feeds c.in_ok-feeds.ensures.sessions in
    rw (p.1, p.2) (ends_over_named (TakeReplies asked) asked.files (feeds_of asked ++ sessions_of asked) _ _ _ _ read c.in_ok-graph.ensures.folder
    _ _ _ _ says c.in_ok-feeds.ensures.folder (starves (TakeReplies asked _ _) _ refl))

pub returns-in_err-put_report : goal.returns-in_err-put_report
returns-in_err-put_report g c =
    let p = err_from_is_err_and c.from_residual-in_err-put_report.result c.from_residual-in_err-put_report.ensures.1 in
    let asked = c.args.asked.now in
    let files = (g.F.Source.state c.read_network.new.folder).files in
    let read = c.in_ok-graph.ensures.read in
    let got = c.in_ok-feeds in
    let says = says_append _ (feeds_of asked) (sessions_of asked) _ _ got.ensures.feeds got.ensures.sessions in
    let short = all_short {L = SureLink} (λ l. l.from) files (sessions_of asked) got.links.items got.ensures.sessions in
    let count = count_feeds files (feeds_of asked) got.feeds.items got.ensures.feeds ∙ count_numbered asked.feeds asked.links in
    let replies = followed_over {L = SureLink} (λ l. l.from) (λ l. l.to) asked _ _ c.in_ok-graph.ensures.matched got.feeds.items _ _ got.links.items _ _ _ _ _ _
    c.deref_mut.ensures.value c.deref_mut-2.ensures.value got.links.ok.0 c.deref.ensures.value c.feeds-2.ensures (rw c.get-budget.ensures.value at c.in_ok-report.ensures.served) count short
    got.ensures.unsent (rw c.feeds.ensures at c.in_ok-feeds_sufficed.ensures) (rw c.lanes.ensures at c.in_ok-memory_sufficed.ensures) in
    rw (p.1, p.2) (ends_over_named (TakeReplies asked) asked.files (feeds_of asked ++ sessions_of asked) _ _ _ _ read c.in_ok-graph.ensures.folder
    _ _ _ _ says got.ensures.folder (sends_part (TakeReplies asked _ _) _ replies _ _ _ c.in_err-put_report.ensures))

pub returns : goal.returns
returns g c =
    let asked = c.args.asked.now in
    let files = (g.F.Source.state c.read_network.new.folder).files in
    let read = c.in_ok-graph.ensures.read in
    let got = c.in_ok-feeds in
    let says = says_append _ (feeds_of asked) (sessions_of asked) _ _ got.ensures.feeds got.ensures.sessions in
    let short = all_short {L = SureLink} (λ l. l.from) files (sessions_of asked) got.links.items got.ensures.sessions in
    let count = count_feeds files (feeds_of asked) got.feeds.items got.ensures.feeds ∙ count_numbered asked.feeds asked.links in
    let replies = followed_over {L = SureLink} (λ l. l.from) (λ l. l.to) asked _ _ c.in_ok-graph.ensures.matched got.feeds.items _ _ got.links.items _ _ _ _ _ _
    c.deref_mut.ensures.value c.deref_mut-2.ensures.value got.links.ok.0 c.deref.ensures.value c.feeds-2.ensures (rw c.get-budget.ensures.value at c.in_ok-report.ensures.served) count short
    got.ensures.unsent (rw c.feeds.ensures at c.in_ok-feeds_sufficed.ensures) (rw c.lanes.ensures at c.in_ok-memory_sufficed.ensures) in
    ends_over_named (TakeReplies asked) asked.files (feeds_of asked ++ sessions_of asked) _ _ _ _ read c.in_ok-graph.ensures.folder
    _ _ _ _ says got.ensures.folder (sends_whole (TakeReplies asked _ _) _ replies _ _ c.in_ok-put_report.ensures)
