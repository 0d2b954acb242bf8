use Rattle.std.proofs.Common.{refl, sym, ◌∙◌, rules}
use Rattle.std.proofs.lemmas.Result.{IfOk-weaker}
use Rattle.bulk_core.proofs.BeginLemmas.{counts_taken, finds_none}
use Rattle.bulk_core.proofs.rounds.Core.begin.Goals as goal

pub returns-then-count_taken-eq0-clause-begun : goal.returns-then-count_taken-eq0-clause-begun
returns-then-count_taken-eq0-clause-begun g c = finds_none c.in_ok-take.ensures.took (sym c.count_taken.ensures ∙ c.if-count_taken-eq0.true)

pub settle_taken-requires : goal.settle_taken-requires
settle_taken-requires g c = (search rules, ((λ none. c.if-count_taken-eq0.false (c.count_taken.ensures ∙ none)), (_, c.in_ok-take.ensures.took)))

pub returns-clause-begun : goal.returns-clause-begun
returns-clause-begun g c = IfOk-weaker c.settle_taken.result _ _ (λ begun settles. settles.begins _ c.in_ok-take.ensures.took) c.settle_taken.ensures.settled

pub returns-clause-steps : goal.returns-clause-steps
returns-clause-steps g c =
    counts_taken c.in_ok-take.ensures.took _ _ _ (λ wrong. (rw wrong at c.settle_taken.ensures.settled).some refl)
    (λ none. c.if-count_taken-eq0.false (c.count_taken.ensures ∙ none)) c.in_ok-take.ensures.step
