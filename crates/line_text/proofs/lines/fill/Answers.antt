use Rattle.std.proofs.Common.{arith}
use Rattle.std.proofs.lemmas.Result.{err_from_is_err_and}
use Rattle.line_text.proofs.FillsLemmas.{fills_none, fills_some}
use Rattle.line_text.proofs.lines.fill.Goals as goal

pub returns-in_err-taken-clause-reads : goal.returns-in_err-taken-clause-reads
returns-in_err-taken-clause-reads g c =
    let p = err_from_is_err_and c.from_residual.result c.from_residual.ensures.1 in
    rw (p.1, p.2) (fills_none c.make_room.new.buffer c.read_behind.new.buffer _ c.make_room.new.held c.make_room.ensures.kept c.make_room.ensures.place
    c.in_err-taken.ensures.front _ _ _ c.in_err-taken.ensures.reads)

pub returns-clause-reads : goal.returns-clause-reads
returns-clause-reads g c =
    fills_some c.make_room.new.buffer c.read_behind.new.buffer _ c.make_room.new.held c.make_room.ensures.kept c.make_room.ensures.place
    c.in_ok-taken.ensures.front _ _ c.in_ok-taken.taken (omega arith) c.in_ok-taken.ensures.reads
