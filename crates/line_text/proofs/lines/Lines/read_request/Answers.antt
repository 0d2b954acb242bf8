use Rattle.std.proofs.Common.{◌∙◌, Ok, ap, arith}
use Rattle.route_io.proofs.ReadsLemmas.{ReadsFrom-then}
use Rattle.line_text.proofs.RequestLemmas.{requests_whole, requests_fault, requests_last, requests_failed, cuts_more, searched_none, skipped_ended}
use Rattle.line_text.proofs.lines.Lines.read_request.Goals as goal

pub returns-in-Ok-Some-clause-requests : goal.returns-in-Ok-Some-clause-requests
returns-in-Ok-Some-clause-requests g c =
    requests_whole _ _ _ _ _ c.loop-request.invariant.cuts _ _ (rw c.in-Ok-Some.field-0-is at c.in-Ok-Some.ensures)

pub returns-in-Err-clause-requests : goal.returns-in-Err-clause-requests
returns-in-Err-clause-requests g c = requests_fault _ _ _ _ _ c.loop-request.invariant.cuts _ _ c.in-Err.ensures

pub loop-request-preserved : goal.loop-request-preserved
loop-request-preserved g c =
    let lacks = rw c.in-Ok-None.field-0-is at c.in-Ok-None.ensures in
    let part = rw lacks.same at lacks.part in
    record {
      cuts = cuts_more _ _ _ _ _ _ _ _ _ _ _ c.loop-request.invariant.cuts lacks c.skip_long-skipped.ensures.long c.skip_long-skipped.ensures.skipped c.skip_long-skipped.ensures.shows
          c.refill_within.ensures.stays c.refill_within.ensures.none_past c.refill_within.ensures.reads;
      none = rw c.held-searched.ensures (searched_none _ _ _ _ _ _ _ _ _ _ _ c.loop-request.invariant.cuts lacks c.skip_long-skipped.ensures.long
          c.skip_long-skipped.ensures.skipped c.skip_long-skipped.ensures.shows c.refill_within.ensures.stays c.refill_within.ensures.none_past c.refill_within.ensures.reads);
      counted = λ long. rw c.refill_within.ensures.stays (c.skip_long-skipped.ensures.counted long);
      held_first = λ held. absurd (omega (arith, (c.loop-request.invariant.held_first held).0, part));
      at_end = λ end. (c.refill_within.ensures.at_end (skipped_ended _ _ _ _ _ _ _ _ _ _ _ c.loop-request.invariant.cuts lacks c.skip_long-skipped.ensures.long
          c.skip_long-skipped.ensures.skipped c.skip_long-skipped.ensures.shows c.refill_within.ensures.stays c.refill_within.ensures.none_past c.refill_within.ensures.reads end)).0 ∙ c.loop-request.invariant.at_end end;
      source = ReadsFrom-then _ _ _ _ c.loop-request.invariant.source c.in-Ok-true.ensures.reads.source;
    }

pub returns-in-Ok-false-clause-requests : goal.returns-in-Ok-false-clause-requests
returns-in-Ok-false-clause-requests g c =
    let lacks = rw c.in-Ok-None.field-0-is at c.in-Ok-None.ensures in
    requests_last _ _ _ _ _ _ _ _ _ _ _ c.loop-request.invariant.cuts lacks c.skip_long-skipped.ensures.long c.skip_long-skipped.ensures.skipped c.skip_long-skipped.ensures.shows
    c.refill_within.ensures.stays c.refill_within.ensures.none_past c.refill_within.ensures.reads _ _ c.take_last.ensures
    (c.in-Ok-false.is ∙ ap Ok c.in-Ok-false.field-0-test)

pub returns-in-Err-refill_within-clause-requests : goal.returns-in-Err-refill_within-clause-requests
returns-in-Err-refill_within-clause-requests g c =
    let lacks = rw c.in-Ok-None.field-0-is at c.in-Ok-None.ensures in
    requests_failed _ _ _ _ _ _ _ _ _ _ _ c.loop-request.invariant.cuts lacks c.skip_long-skipped.ensures.long c.skip_long-skipped.ensures.skipped c.skip_long-skipped.ensures.shows
    c.refill_within.ensures.stays c.refill_within.ensures.none_past c.refill_within.ensures.reads _ c.in-Err-refill_within.is
