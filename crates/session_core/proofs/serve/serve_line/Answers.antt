use Rattle.std.proofs.Common.{◌≡◌, Ok, Some, None, Option, IfNone, Result, subst, sym, ◌∙◌}
use Rattle.route_io.specs.Sources.{SourceState, ReadsFrom}
use Rattle.line_text.specs.Reading.{Lines, line_failed}
use Rattle.line_text.specs.Requests.{Requests}
use Rattle.line_text.specs.declared.limits.LineFault.{LineFault}
use Rattle.line_text.specs.declared.limits.Request.{Request}
use Rattle.session_core.proofs.ServesLemmas.{serves_all, serves_fault, serves_foreign, serves_next, takes_some}
use Rattle.session_core.proofs.serve.serve_line.Goals as goal

-- what a call did to a reader that keeps no fault
requests_of : (old new : Lines) (before after : SourceState) (result : Result (Option Request) LineFault) → old.fault ≡ None
    → IfNone old.fault (Requests old new before after result) → Requests old new before after result
requests_of old new before after result none requests = subst (λ fault. IfNone fault (Requests old new before after result)) none requests

source_of : (old : Lines) (before after : SourceState) (result : Result (Option Request) LineFault) → old.fault ≡ None
    → ReadsFrom before after (line_failed old.fault result) → ReadsFrom before after (line_failed None result)
source_of old before after result none source = subst (λ fault. ReadsFrom before after (line_failed fault result)) none source

pub returns-in-Ok-None-clause-serves : goal.returns-in-Ok-None-clause-serves
returns-in-Ok-None-clause-serves g c first from to served =
    let call = rw c.in-Ok-None.field-0-is at c.in-Ok-None.ensures in
    serves_all _ _ _ _ _ _ _ _ _ _ served _ _
    (requests_of c.args.lines.now c.next_request.new.self _ _ (Ok None) c.requires.goes_on call.requests)
    (source_of c.args.lines.now _ _ (Ok None) c.requires.goes_on call.source)

pub returns-in-Err-clause-serves : goal.returns-in-Err-clause-serves
returns-in-Err-clause-serves g c first from to served =
    rw c.end_by_input.ensures (serves_fault _ _ _ _ _ _ _ _ _ _ served _ _ _
    (requests_of c.args.lines.now c.next_request.new.self _ _ _ c.requires.goes_on c.in-Err.ensures.requests)
    (source_of c.args.lines.now _ _ _ c.requires.goes_on c.in-Err.ensures.source))

pub returns-then-is_warded_off-clause-serves : goal.returns-then-is_warded_off-clause-serves
returns-then-is_warded_off-clause-serves g c first from to served =
    let call = rw c.in-Ok-Some.field-0-is at c.in-Ok-Some.ensures in
    let requests = requests_of c.args.lines.now c.next_request.new.self _ _ (Ok (Some c.in-Ok-Some.kind)) c.requires.goes_on call.requests in
    let source = source_of c.args.lines.now _ _ (Ok (Some c.in-Ok-Some.kind)) c.requires.goes_on call.source in
    serves_foreign _ _ _ _ _ _ _ _ _ _ served _ _ _ requests source call.keeps_fault (sym c.is_warded_off.ensures ∙ c.if-is_warded_off.true)

pub returns-clause-serves : goal.returns-clause-serves
returns-clause-serves g c first from to served =
    let call = rw c.in-Ok-Some.field-0-is at c.in-Ok-Some.ensures in
    let requests = requests_of c.args.lines.now c.next_request.new.self _ _ (Ok (Some c.in-Ok-Some.kind)) c.requires.goes_on call.requests in
    let source = source_of c.args.lines.now _ _ (Ok (Some c.in-Ok-Some.kind)) c.requires.goes_on call.source in
    let sunk = g.K.Sink.state c.answer.new.arg6 in
    rw c.end_by_answer.ensures (serves_next _ _ _ _ _ _ _ _ _ _ served _ _ _ requests c.answer.new.arg3 sunk c.answer.result source call.keeps_fault
    (sym c.is_warded_off.ensures ∙ c.if-is_warded_off.false)
    (λ exchanges raw is runs. c.requires.answers _ _ _ _ _ _ _ _ c.answer.ensures first exchanges raw (rw c.text.ensures.value is) runs))

pub returns-clause-takes_some : goal.returns-clause-takes_some
returns-clause-takes_some g c is_none =
    let call = rw c.in-Ok-Some.field-0-is at c.in-Ok-Some.ensures in
    let requests = requests_of c.args.lines.now c.next_request.new.self _ _ (Ok (Some c.in-Ok-Some.kind)) c.requires.goes_on call.requests in
    takes_some c.args.lines.now c.next_request.new.self c.in-Ok-Some.kind requests.counts
