use Rattle.std.proofs.Common.{◌≡◌, ◌<◌, ◌≤◌, ◌∙◌, ◌++◌, ◌∷◌, ◌+◌, [], arith, length, map, rules, subst, sym, ap, take}
use Rattle.std.proofs.lemmas.List.{map-append, take_all}
use Rattle.std.proofs.lemmas.List.Elements.{All-append, All-cons, All-nil}
use Rattle.std.proofs.lemmas.Result.{err_from_is_err_and}
use Rattle.std.specs.List.{All, AllZip}
use Rattle.route_io.specs.declared.link.Link.{Link}
use Rattle.route_io.specs.declared.sure.SureSource.{SureSource}
use Rattle.route_io.specs.declared.sure.SureSink.{SureSink}
use Rattle.route_io.proofs.ReadsLemmas.{ReadsFiles-then}
use Rattle.command_words.specs.Words.{scripts_of}
use Rattle.route_top.specs.Lanes.{SaysScript, starved}
use Rattle.route_top.proofs.LaneScripts.{count_scripts, one_script_more, stops_at}
use Rattle.route_top.proofs.lanes.read_scripts.Goals as goal

-- nothing was sent on the link
abbrev IsUnsent : Link SureSource SureSink → Type 0
IsUnsent link = link.to ≡ record { sent = []; wants = 0 }

pub read_script-requires : goal.read_script-requires
read_script-requires g c =
    let names = scripts_of c.args.asked.now in
    let inside : c.loop-number.number < length names =
    omega (arith, c.loop-number-test.true, c.loop-number.auto.number-end, count_scripts c.args.asked.now) in
    subst g.F.Folder.admits (sym c.script_at.ensures) (c.requires c.loop-number.number [] inside)

pub returns-in_err-bytes-clause-stopped : goal.returns-in_err-bytes-clause-stopped
returns-in_err-bytes-clause-stopped g c =
    let p = err_from_is_err_and c.from_residual.result c.from_residual.ensures.1 in
    let names = scripts_of c.args.asked.now in
    let inside : c.loop-number.number < length names =
    omega (arith, c.loop-number-test.true, c.loop-number.auto.number-end, count_scripts c.args.asked.now) in
    rw (p.1, p.2) (stops_at _ names c.loop-number.number inside _ c.loop-number.invariant.read
    (rw (c.script_at.ensures, c.loop-number.invariant.folder.files) at c.in_err-bytes.ensures.read))

pub returns-in-Err-clause-stopped : goal.returns-in-Err-clause-stopped
returns-in-Err-clause-stopped g c =
    let names = scripts_of c.args.asked.now in
    let inside : c.loop-number.number < length names =
    omega (arith, c.loop-number-test.true, c.loop-number.auto.number-end, count_scripts c.args.asked.now) in
    stops_at _ names c.loop-number.number inside _ c.loop-number.invariant.read starved

pub returns-clause-read : goal.returns-clause-read
returns-clause-read g c =
    let names = scripts_of c.args.asked.now in
    let past : length names ≤ c.loop-number.number =
    omega (arith, c.loop-number-test.false, c.loop-number.auto.number-end, count_scripts c.args.asked.now) in
    rw (take_all c.loop-number.number names past) at c.loop-number.invariant.read

pub loop-number-preserved : goal.loop-number-preserved
loop-number-preserved g c =
    let names = scripts_of c.args.asked.now in
    let inside : c.loop-number.number < length names =
    omega (arith, c.loop-number-test.true, c.loop-number.auto.number-end, count_scripts c.args.asked.now) in
    let links = c.loop-number.links.items in
    let link = c.link_of.result in
    let grown : c.push.new.self.items ≡ links ++ link ∷ [] = search rules in
    let says = rw (c.script_at.ensures, c.loop-number.invariant.folder.files) at c.in_ok-bytes.ensures.read in
    let all = one_script_more _ names c.loop-number.number inside _ c.loop-number.invariant.read c.in_ok-bytes.bytes.items says in
    let same : map (λ l. l.from) links ++ c.in_ok-bytes.bytes.items ∷ [] ≡ map (λ l. l.from) c.push.new.self.items =
    ap (λ b. map (λ l. l.from) links ++ b ∷ []) (sym c.link_of.ensures.from) ∙ sym (ap (map (λ l. l.from)) grown ∙ map-append (λ l. l.from) links (link ∷ [])) in
    let unsent = All-append IsUnsent links (link ∷ []) c.loop-number.invariant.unsent (All-cons IsUnsent link [] c.link_of.ensures.to (All-nil IsUnsent)) in
    record {
      folder = ReadsFiles-then _ _ _ _ c.loop-number.invariant.folder c.in_ok-bytes.ensures.folder;
      read = subst (AllZip (SaysScript (g.F.Source.state c.args.folder.now).files) (take (c.loop-number.number + 1) names)) same all;
      unsent = subst (All IsUnsent) (sym grown) unsent;
    }
