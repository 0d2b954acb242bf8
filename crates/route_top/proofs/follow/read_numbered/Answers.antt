use Rattle.std.proofs.Common.{◌≡◌, ◌<◌, ◌≤◌, ◌++◌, ◌∷◌, ◌+◌, [], arith, length, rules, subst, sym, take}
use Rattle.std.proofs.lemmas.List.{take_all}
use Rattle.std.proofs.lemmas.Result.{err_from_is_err_and}
use Rattle.std.specs.List.{AllZip}
use Rattle.route_io.proofs.ReadsLemmas.{ReadsFiles-then}
use Rattle.route_top.specs.Follow.{numbered}
use Rattle.route_top.specs.Lanes.{SaysScript, starved}
use Rattle.route_top.proofs.LaneScripts.{one_script_more, stops_at}
use Rattle.route_top.proofs.NumberedFiles.{count_numbered, numbered_at}
use Rattle.route_top.proofs.follow.read_numbered.Goals as goal

pub read_script-requires : goal.read_script-requires
read_script-requires g c =
    let stem = c.args.stem.now in
    let n = c.loop-place.place in
    let inside : n < c.args.count = omega (arith, c.loop-place-test.true, c.loop-place.auto.place-end) in
    subst g.F.Folder.admits (sym (numbered_at stem c.args.count n inside))
    (c.requires.admitted n [] (omega (arith, inside, count_numbered stem c.args.count)))

pub returns-in_err-bytes-clause-stopped : goal.returns-in_err-bytes-clause-stopped
returns-in_err-bytes-clause-stopped g c =
    let p = err_from_is_err_and c.from_residual.result c.from_residual.ensures.1 in
    let stem = c.args.stem.now in
    let n = c.loop-place.place in
    let inside : n < c.args.count = omega (arith, c.loop-place-test.true, c.loop-place.auto.place-end) in
    let within : n < length (numbered stem c.args.count) = omega (arith, inside, count_numbered stem c.args.count) in
    rw (p.1, p.2) (stops_at _ (numbered stem c.args.count) n within _ c.loop-place.invariant.read
    (rw (numbered_at stem c.args.count n inside, c.loop-place.invariant.folder.files) at c.in_err-bytes.ensures.read))

pub returns-in-Err-clause-stopped : goal.returns-in-Err-clause-stopped
returns-in-Err-clause-stopped g c =
    let stem = c.args.stem.now in
    let n = c.loop-place.place in
    let inside : n < c.args.count = omega (arith, c.loop-place-test.true, c.loop-place.auto.place-end) in
    let within : n < length (numbered stem c.args.count) = omega (arith, inside, count_numbered stem c.args.count) in
    stops_at _ (numbered stem c.args.count) n within _ c.loop-place.invariant.read starved

pub returns-clause-read : goal.returns-clause-read
returns-clause-read g c =
    let names = numbered c.args.stem.now c.args.count in
    let past : length names ≤ c.loop-place.place =
    omega (arith, c.loop-place-test.false, c.loop-place.auto.place-end, count_numbered c.args.stem.now c.args.count) in
    rw (take_all c.loop-place.place names past) at c.loop-place.invariant.read

pub loop-place-preserved : goal.loop-place-preserved
loop-place-preserved g c =
    let stem = c.args.stem.now in
    let names = numbered stem c.args.count in
    let n = c.loop-place.place in
    let inside : n < c.args.count = omega (arith, c.loop-place-test.true, c.loop-place.auto.place-end) in
    let within : n < length names = omega (arith, inside, count_numbered stem c.args.count) in
    let bytes = c.in_ok-bytes.bytes.items in
    let grown : c.push.new.self.items ≡ c.loop-place.all.items ++ bytes ∷ [] = search rules in
    let says = rw (numbered_at stem c.args.count n inside, c.loop-place.invariant.folder.files) at c.in_ok-bytes.ensures.read in
    let all = one_script_more _ names n within _ c.loop-place.invariant.read bytes says in record {
      folder = ReadsFiles-then _ _ _ _ c.loop-place.invariant.folder c.in_ok-bytes.ensures.folder;
      read = subst (AllZip (SaysScript (g.F.Source.state c.args.folder.now).files) (take (n + 1) names)) (sym grown) all;
    }
