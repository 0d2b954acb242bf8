use Rattle.std.proofs.Common.{sym, ◌∙◌}
use Rattle.epoch_follow.specs.Text.{head_of}
use Rattle.epoch_follow.proofs.ChangeLemmas.{says_asked, says_none}
use Rattle.epoch_follow.proofs.fields.change_in.Goals as goal

pub returns-in-Request-clause-says : goal.returns-in-Request-clause-says
returns-in-Request-clause-says c =
    let head = head_of c.args.graph.now 0 in
    let r = c.in-Request.request in
    let asked = rw c.criteria.ensures.count at (c.read_operator_request.ensures.request r).0 c.in-Request.is in
    c.change_asked.ensures.says ∙ sym (says_asked head c.args.text.now r asked)

pub returns-in_default : goal.returns-in_default
returns-in_default c =
    let head = head_of c.args.graph.now 0 in
    record {
      says = sym (says_none head c.args.text.now (λ r asked. c.in_default.not-Request r ((c.read_operator_request.ensures.request r).1 (rw (sym c.criteria.ensures.count) at asked))));
      change = tt;
    }
