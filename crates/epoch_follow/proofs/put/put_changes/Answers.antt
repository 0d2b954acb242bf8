use Rattle.std.proofs.Common.{◌+◌, take, drop}
use Rattle.std.specs.List.{flat_map}
use Rattle.std.proofs.lemmas.Result.{err_from_is_err_and}
use Rattle.epoch_follow.specs.Text.{change_line}
use Rattle.epoch_follow.proofs.SentLemmas.{changes-parts, part_cut}
use Rattle.epoch_follow.proofs.put.put_changes.Goals as goal

pub returns-in_err-put_change : goal.returns-in_err-put_change
returns-in_err-put_change g c =
    let p = err_from_is_err_and c.from_residual.result c.from_residual.ensures.1 in
    let cs = c.args.changes.now in
    let i = c.loop-change.change-index in
    let item = c.change-item.result in
    rw (p.1, p.2) (part_cut _ (flat_map change_line (take i cs)) (change_line item) (flat_map change_line (drop (i + 1) cs))
    (changes-parts cs i _ item c.loop-change-test.true c.change-item.is) _ _ _ c.loop-change.invariant _ c.in_err-put_change.ensures)
