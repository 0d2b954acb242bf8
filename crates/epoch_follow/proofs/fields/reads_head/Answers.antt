use Rattle.std.proofs.Common.{[], ◌∷◌, is_some, sym, ap, ◌∙◌}
use Rattle.line_text.specs.Fields.{fields_of}
use Rattle.epoch_follow.specs.Runs.{writes}
use Rattle.epoch_follow.specs.Text.{head_of}
use Rattle.epoch_follow.proofs.MeetsLemmas.{is_head-meets}
use Rattle.epoch_follow.proofs.fields.reads_head.Goals as goal

pub returns-in_err-rest : goal.returns-in_err-rest
returns-in_err-rest c =
    let head = head_of c.args.graph.now c.args.first in
    ap is_some c.from_residual.ensures
    ∙ sym (is_head-meets head (fields_of c.args.text.now) ∙ c.in_err-rest.ensures (writes head.arcs ∷ writes head.criteria ∷ writes head.first ∷ []))

pub returns-in_err-rest-2 : goal.returns-in_err-rest-2
returns-in_err-rest-2 c =
    let head = head_of c.args.graph.now c.args.first in
    ap is_some c.from_residual-in_err-rest-2.ensures
    ∙ sym (is_head-meets head (fields_of c.args.text.now) ∙ c.in_ok-rest.ensures (writes head.arcs ∷ writes head.criteria ∷ writes head.first ∷ [])
    ∙ (rw (c.from.ensures, c.arcs.ensures) at c.in_err-rest-2.ensures) (writes head.criteria ∷ writes head.first ∷ []))

pub returns-in_err-rest-3 : goal.returns-in_err-rest-3
returns-in_err-rest-3 c =
    let head = head_of c.args.graph.now c.args.first in
    ap is_some c.from_residual-in_err-rest-3.ensures
    ∙ sym (is_head-meets head (fields_of c.args.text.now) ∙ c.in_ok-rest.ensures (writes head.arcs ∷ writes head.criteria ∷ writes head.first ∷ [])
    ∙ (rw (c.from.ensures, c.arcs.ensures) at c.in_ok-rest-2.ensures) (writes head.criteria ∷ writes head.first ∷ [])
    ∙ (rw c.criteria.ensures.count at c.in_err-rest-3.ensures) (writes head.first ∷ []))

pub returns-in_err-rest-4 : goal.returns-in_err-rest-4
returns-in_err-rest-4 c =
    let head = head_of c.args.graph.now c.args.first in
    ap is_some c.from_residual-in_err-rest-4.ensures
    ∙ sym (is_head-meets head (fields_of c.args.text.now) ∙ c.in_ok-rest.ensures (writes head.arcs ∷ writes head.criteria ∷ writes head.first ∷ [])
    ∙ (rw (c.from.ensures, c.arcs.ensures) at c.in_ok-rest-2.ensures) (writes head.criteria ∷ writes head.first ∷ [])
    ∙ (rw c.criteria.ensures.count at c.in_ok-rest-3.ensures) (writes head.first ∷ [])
    ∙ (rw c.from-2.ensures at c.in_err-rest-4.ensures) [])

pub returns : goal.returns
returns c =
    let head = head_of c.args.graph.now c.args.first in
    c.behind_all.ensures
    ∙ sym (is_head-meets head (fields_of c.args.text.now) ∙ c.in_ok-rest.ensures (writes head.arcs ∷ writes head.criteria ∷ writes head.first ∷ [])
    ∙ (rw (c.from.ensures, c.arcs.ensures) at c.in_ok-rest-2.ensures) (writes head.criteria ∷ writes head.first ∷ [])
    ∙ (rw c.criteria.ensures.count at c.in_ok-rest-3.ensures) (writes head.first ∷ [])
    ∙ (rw c.from-2.ensures at c.in_ok-rest-4.ensures) [])
