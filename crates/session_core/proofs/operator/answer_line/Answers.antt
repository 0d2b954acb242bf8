use Rattle.std.proofs.Common.{sym, ◌∙◌}
use Rattle.session_core.specs.Operators.{IsOperatorBye}
use Rattle.session_core.proofs.AnswersLineLemmas.{answers_cut, sends_nothing}
use Rattle.session_core.proofs.OperatorRunLemmas.{tells}
use Rattle.session_core.proofs.operator.answer_line.Goals as goal

pub returns-in_err-put_reply-in-Says : goal.returns-in_err-put_reply-in-Says
returns-in_err-put_reply-in-Says g c = λ first exchanges raw text run.
    answers_cut _ (IsOperatorBye g.T.Store.origin) _ _ _ _ _ _ c.from_residual-in_err-put_reply-in-Says.ensures.1
    (tells g.T.Store.origin first c.args.operator.now c.apply.new.operator exchanges raw _ _ c.read-line.result _ _ _ (c.criteria.ensures.count ∙ sym c.requires.criteria) run
    (c.read-line.ensures.line raw text) (rw c.in-Says.is at c.in_ok-apply.ensures.applies) c.in_err-put_reply-in-Says.ensures)

pub returns-in-Silent : goal.returns-in-Silent
returns-in-Silent g c = λ first exchanges raw text run.
    tells g.T.Store.origin first c.args.operator.now c.apply.new.operator exchanges raw _ _ c.read-line.result _ _ _ (c.criteria.ensures.count ∙ sym c.requires.criteria) run
    (c.read-line.ensures.line raw text) (rw c.in-Silent.is at c.in_ok-apply.ensures.applies) (sends_nothing _)

pub returns-in_ok-put_reply-in-Says : goal.returns-in_ok-put_reply-in-Says
returns-in_ok-put_reply-in-Says g c = λ first exchanges raw text run.
    tells g.T.Store.origin first c.args.operator.now c.apply.new.operator exchanges raw _ _ c.read-line.result _ _ _ (c.criteria.ensures.count ∙ sym c.requires.criteria) run
    (c.read-line.ensures.line raw text) (rw c.in-Says.is at c.in_ok-apply.ensures.applies)
    (rw c.in_ok-put_reply-in-Says.was at c.put_reply.ensures)
