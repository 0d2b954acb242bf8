use Rattle.std.proofs.Common.{sym, ◌∙◌}
use Rattle.session_requests.proofs.AsksOfOperatorLemmas.{asks_operator}
use Rattle.session_requests.proofs.LineLemmas.{asks_found, asks_none}
use Rattle.session_requests.proofs.operator.read_operator_request.Goals as goal

pub returns-in-Some-request_behind-clause-request : goal.returns-in-Some-request_behind-clause-request
returns-in-Some-request_behind-clause-request c =
    let exact = asks_operator c.args.criteria c.args.text.now _ _ c.in-Some.ensures.fields in
    asks_found _ _ exact c.in-Some-request_behind.request (sym c.request_behind.ensures ∙ c.in-Some-request_behind.is)

pub returns-in-None-clause-request : goal.returns-in-None-clause-request
returns-in-None-clause-request c =
    let exact = asks_operator c.args.criteria c.args.text.now _ _ c.in-Some.ensures.fields in
    asks_none _ _ exact (sym c.request_behind.ensures ∙ c.in-None.is)
