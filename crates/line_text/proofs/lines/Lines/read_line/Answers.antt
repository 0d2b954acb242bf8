use Rattle.std.proofs.Common.{◌∙◌}
use Rattle.route_io.proofs.ReadsLemmas.{ReadsFrom-then}
use Rattle.line_text.proofs.AdvancesLemmas.{advances_broken, advances_whole, advances_end, advances_failed, held_same, holds_more, searched_none}
use Rattle.line_text.proofs.lines.Lines.read_line.Goals as goal

pub returns-in-Ok-true-clause-advances : goal.returns-in-Ok-true-clause-advances
returns-in-Ok-true-clause-advances g c =
    advances_whole _ _ _ _ _ c.loop-fault.invariant.holds (rw c.in-Ok-true.field-0-test at c.in-Ok-true.ensures)

pub returns-in-Err-clause-advances : goal.returns-in-Err-clause-advances
returns-in-Err-clause-advances g c = advances_broken _ _ _ _ _ c.loop-fault.invariant.holds _ c.in-Err.ensures

pub loop-fault-preserved : goal.loop-fault-preserved
loop-fault-preserved g c =
    let lacks = rw c.in-Ok-false.field-0-test at c.in-Ok-false.ensures in
    record {
      holds = holds_more _ _ _ lacks c.refill.ensures.stays _ _ _ c.refill.ensures.reads _ _ c.loop-fault.invariant.holds;
      none = rw c.held-searched.ensures (searched_none _ _ _ lacks c.refill.ensures.stays _ _ _ c.refill.ensures.reads);
      at_end = λ end. (c.refill.ensures.at_end (rw lacks.same (c.loop-fault.invariant.holds.stays_ended end))).0 ∙ c.loop-fault.invariant.at_end end;
      source = ReadsFrom-then _ _ _ _ c.loop-fault.invariant.source c.in-Ok-true-refill.ensures.reads.source;
    }

pub returns-in-Ok-false-refill-clause-advances : goal.returns-in-Ok-false-refill-clause-advances
returns-in-Ok-false-refill-clause-advances g c =
    let lacks = rw c.in-Ok-false.field-0-test at c.in-Ok-false.ensures in
    let end = rw c.in-Ok-false-refill.field-0-test at c.in-Ok-false-refill.ensures.reads in
    let same = held_same _ _ _ end.grown end.answer.0 in
    advances_end _ _ _ _ _ (holds_more _ _ _ lacks c.refill.ensures.stays _ _ _ c.refill.ensures.reads _ _ c.loop-fault.invariant.holds)
    c.take_rest.result c.take_rest.ensures.some c.take_rest.ensures.none
    (rw (c.refill.ensures.stays, same) lacks.within) end.answer.1

pub returns-in-Err-refill-clause-advances : goal.returns-in-Err-refill-clause-advances
returns-in-Err-refill-clause-advances g c =
    let lacks = rw c.in-Ok-false.field-0-test at c.in-Ok-false.ensures in
    let failed = rw c.in-Err-refill.is at c.refill.ensures.reads in
    let same = held_same _ _ _ failed.grown failed.answer.0 in
    advances_failed _ _ c.refill.new.self _ _ (holds_more _ _ _ lacks c.refill.ensures.stays _ _ _ c.refill.ensures.reads _ _ c.loop-fault.invariant.holds)
    failed.answer.2 (rw same lacks.part)
