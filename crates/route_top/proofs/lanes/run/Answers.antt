use Rattle.std.proofs.Common.{ap, arith, length}
use Rattle.route_io.specs.declared.link.Link.{Link}
use Rattle.route_io.specs.declared.sure.SureSink.{SureSink}
use Rattle.route_io.specs.declared.sure.SureSource.{SureSource}
use Rattle.std.proofs.lemmas.Result.{err_from_is_err_and}
use Rattle.command_words.specs.Words.{scripts_of}
use Rattle.still_commands.proofs.FilesReadLemmas.{ends_at_files}
use Rattle.route_top.specs.Lanes.{LanesEnd}
use Rattle.route_top.proofs.LaneScripts.{count_scripts}
use Rattle.route_top.proofs.LanesRuns.{all_short, count_links, ends_at_scripts, ends_over_scripts, lanes_cut, lanes_replied, lanes_starve, of_scripts}
use Rattle.route_top.proofs.ServedScripts.{links_exchanged}
use Rattle.route_top.proofs.lanes.run.Goals as goal

-- a link in memory that never fails
abbrev SureLink : Type 0
SureLink = Link SureSource SureSink

pub returns-in_err-graph : goal.returns-in_err-graph
returns-in_err-graph g c =
    let p = err_from_is_err_and c.from_residual.result c.from_residual.ensures.1 in
    let stop = c.in_err-graph.ensures.read in
    rw (p.1, p.2) (ends_at_files (LanesEnd (g.F.Source.state c.args.folder.now).files c.args.asked.now) _ _ _ _ stop
    c.in_err-graph.ensures.folder)

pub read_scripts-requires : goal.read_scripts-requires
read_scripts-requires g c = of_scripts g.F.Folder.admits c.args.asked.now.files (scripts_of c.args.asked.now) c.requires

pub returns-in_err-links : goal.returns-in_err-links
returns-in_err-links g c =
    let p = err_from_is_err_and c.from_residual-in_err-links.result c.from_residual-in_err-links.ensures.1 in
    let read = c.in_ok-graph.ensures.read in
    rw (p.1, p.2) (ends_at_scripts c.args.asked.now _ _ _ _ read c.in_ok-graph.ensures.folder _ c.in_err-links.ensures.stopped
    c.in_err-links.ensures.folder)

pub run_lanes-requires-clause-some_session : goal.run_lanes-requires-clause-some_session
run_lanes-requires-clause-some_session g c κs within =
    let links = count_links {L = SureLink} (λ l. l.from) (g.F.Source.state c.read_network.new.folder).files (scripts_of c.args.asked.now)
    c.in_ok-links.links.items c.in_ok-links.ensures.read in
    omega (arith, links, count_scripts c.args.asked.now, ap length c.deref_mut.ensures.value)

pub run_lanes-requires-clause-at_most_16_sessions : goal.run_lanes-requires-clause-at_most_16_sessions
run_lanes-requires-clause-at_most_16_sessions g c κs within =
    let links = count_links {L = SureLink} (λ l. l.from) (g.F.Source.state c.read_network.new.folder).files (scripts_of c.args.asked.now)
    c.in_ok-links.links.items c.in_ok-links.ensures.read in
    omega (arith, links, count_scripts c.args.asked.now, ap length c.deref_mut.ensures.value)

pub returns-in_err-reports : goal.returns-in_err-reports
returns-in_err-reports g c =
    let p = err_from_is_err_and c.from_residual-in_err-reports.result c.from_residual-in_err-reports.ensures.1 in
    let read = c.in_ok-graph.ensures.read in
    rw (p.1, p.2) (ends_over_scripts c.args.asked.now _ _ _ _ read c.in_ok-graph.ensures.folder _ _ _ _ c.in_ok-links.ensures.read
    c.in_ok-links.ensures.folder (lanes_starve c.args.asked.now _ _ _))

pub returns-in_err-memory_sufficed : goal.returns-in_err-memory_sufficed
returns-in_err-memory_sufficed g c =
    let p = err_from_is_err_and c.from_residual-in_err-memory_sufficed.result c.from_residual-in_err-memory_sufficed.ensures.1 in
    let read = c.in_ok-graph.ensures.read in
    rw (p.1, p.2) (ends_over_scripts c.args.asked.now _ _ _ _ read c.in_ok-graph.ensures.folder _ _ _ _ c.in_ok-links.ensures.read
    c.in_ok-links.ensures.folder (lanes_starve c.args.asked.now _ _ _))

pub returns-in_err-put_lanes : goal.returns-in_err-put_lanes
returns-in_err-put_lanes g c =
    let p = err_from_is_err_and c.from_residual-in_err-put_lanes.result c.from_residual-in_err-put_lanes.ensures.1 in
    let asked = c.args.asked.now in
    let read = c.in_ok-graph.ensures.read in
    let short = all_short {L = SureLink} (λ l. l.from) (g.F.Source.state c.read_network.new.folder).files (scripts_of asked) c.in_ok-links.links.items
    c.in_ok-links.ensures.read in
    let exchanges = links_exchanged {L = SureLink} (λ l. l.from) (λ l. l.to) asked _ _ c.in_ok-graph.ensures.matched c.in_ok-links.links.items _ _ _ _ _ _
    c.deref_mut.ensures.value c.in_ok-links.links.ok.0 c.deref-2.ensures.value c.deref.ensures.value (rw c.get-budget.ensures.value at c.in_ok-reports.ensures.served) short
    c.in_ok-links.ensures.unsent c.in_ok-memory_sufficed.ensures in
    rw (p.1, p.2) (ends_over_scripts asked _ _ _ _ read c.in_ok-graph.ensures.folder _ _ _ _ c.in_ok-links.ensures.read c.in_ok-links.ensures.folder
    (lanes_cut asked _ _ _ exchanges _ _ _ c.in_err-put_lanes.ensures))

pub returns : goal.returns
returns g c =
    let asked = c.args.asked.now in
    let read = c.in_ok-graph.ensures.read in
    let short = all_short {L = SureLink} (λ l. l.from) (g.F.Source.state c.read_network.new.folder).files (scripts_of asked) c.in_ok-links.links.items
    c.in_ok-links.ensures.read in
    let exchanges = links_exchanged {L = SureLink} (λ l. l.from) (λ l. l.to) asked _ _ c.in_ok-graph.ensures.matched c.in_ok-links.links.items _ _ _ _ _ _
    c.deref_mut.ensures.value c.in_ok-links.links.ok.0 c.deref-2.ensures.value c.deref.ensures.value (rw c.get-budget.ensures.value at c.in_ok-reports.ensures.served) short
    c.in_ok-links.ensures.unsent c.in_ok-memory_sufficed.ensures in
    ends_over_scripts asked _ _ _ _ read c.in_ok-graph.ensures.folder _ _ _ _ c.in_ok-links.ensures.read c.in_ok-links.ensures.folder
    (lanes_replied asked _ _ _ exchanges _ _ c.in_ok-put_lanes.ensures)
