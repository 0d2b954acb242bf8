use Rattle.std.proofs.lemmas.Result.{err_from_is_err_and}
use Rattle.route_top.specs.Lanes.{failed, starved}
use Rattle.route_top.proofs.LaneScripts.{reading_stops, script_is_read}
use Rattle.route_top.proofs.script.read_script.Goals as goal

pub returns-in_err-name-clause-read : goal.returns-in_err-name-clause-read
returns-in_err-name-clause-read g c =
    let p = err_from_is_err_and c.from_residual.result c.from_residual.ensures.1 in
    rw (p.1, p.2) starved

pub returns-in_default-clause-read : goal.returns-in_default-clause-read
returns-in_default-clause-read g c = failed

pub returns-in-Ok-read_whole-clause-read : goal.returns-in-Ok-read_whole-clause-read
returns-in-Ok-read_whole-clause-read g c =
    let opens = rw (c.in-Ok.is, c.as_str.ensures.value, c.in_ok-name.ensures) at c.select.ensures.opened in
    script_is_read _ _ _ c.in-Ok-read_whole.bytes opens (rw c.in-Ok-read_whole.is at c.read_whole.ensures.read)

pub returns-clause-read : goal.returns-clause-read
returns-clause-read g c =
    let opens = rw (c.in-Ok.is, c.as_str.ensures.value, c.in_ok-name.ensures) at c.select.ensures.opened in
    reading_stops _ _ _ _ opens (rw c.in-Err.is at c.read_whole.ensures.read)
