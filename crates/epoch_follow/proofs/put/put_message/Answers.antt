use Rattle.std.proofs.Common.{◌++◌, Ok, length}
use Rattle.std.specs.List.{flat_map}
use Rattle.std.proofs.lemmas.Result.{err_from_is_err_and}
use Rattle.route_io.proofs.SendsLemmas.{Sends-cut, Sends-then}
use Rattle.epoch_follow.specs.Text.{begin_line, change_line, end_of_message}
use Rattle.epoch_follow.proofs.put.put_message.Goals as goal

pub returns-in_err-put_begin : goal.returns-in_err-put_begin
returns-in_err-put_begin g c =
    let p = err_from_is_err_and c.from_residual.result c.from_residual.ensures.1 in
    let begin = begin_line c.args.epoch (length c.args.changes.now) in
    let lines = flat_map change_line c.args.changes.now in
    rw (p.1, p.2) (Sends-cut _ _ (begin ++ lines) (end_of_message c.args.epoch) _ (Sends-cut _ _ begin lines _ c.in_err-put_begin.ensures))

pub returns-in_err-put_changes : goal.returns-in_err-put_changes
returns-in_err-put_changes g c =
    let p = err_from_is_err_and c.from_residual-in_err-put_changes.result c.from_residual-in_err-put_changes.ensures.1 in
    let begin = begin_line c.args.epoch (length c.args.changes.now) in
    let lines = flat_map change_line c.args.changes.now in
    rw (p.1, p.2) (Sends-cut _ _ (begin ++ lines) (end_of_message c.args.epoch) _
    (Sends-then _ _ _ begin lines _ c.in_ok-put_begin.ensures c.in_err-put_changes.ensures))

pub returns : goal.returns
returns g c =
    let begin = begin_line c.args.epoch (length c.args.changes.now) in
    let lines = flat_map change_line c.args.changes.now in
    Sends-then _ _ _ (begin ++ lines) (end_of_message c.args.epoch) c.put_end.result
    (Sends-then _ _ _ begin lines (Ok tt) c.in_ok-put_begin.ensures c.in_ok-put_changes.ensures) c.put_end.ensures
