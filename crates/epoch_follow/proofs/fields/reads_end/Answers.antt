use Rattle.std.proofs.Common.{[], ◌∷◌, is_some, sym, ap, ◌∙◌}
use Rattle.line_text.specs.Fields.{fields_of}
use Rattle.epoch_follow.specs.Runs.{writes}
use Rattle.epoch_follow.proofs.MeetsLemmas.{is_end-meets}
use Rattle.epoch_follow.proofs.fields.reads_end.Goals as goal

pub returns-in_err-rest : goal.returns-in_err-rest
returns-in_err-rest c =
    let epoch = c.args.epoch in
    ap is_some c.from_residual.ensures ∙ sym (is_end-meets epoch (fields_of c.args.text.now) ∙ c.in_err-rest.ensures (writes epoch ∷ []))

pub returns-in_err-rest-2 : goal.returns-in_err-rest-2
returns-in_err-rest-2 c =
    let epoch = c.args.epoch in
    ap is_some c.from_residual-in_err-rest-2.ensures
    ∙ sym (is_end-meets epoch (fields_of c.args.text.now) ∙ c.in_ok-rest.ensures (writes epoch ∷ []) ∙ (rw c.from.ensures at c.in_err-rest-2.ensures) [])

pub returns : goal.returns
returns c =
    let epoch = c.args.epoch in
    c.behind_all.ensures
    ∙ sym (is_end-meets epoch (fields_of c.args.text.now) ∙ c.in_ok-rest.ensures (writes epoch ∷ []) ∙ (rw c.from.ensures at c.in_ok-rest-2.ensures) [])
