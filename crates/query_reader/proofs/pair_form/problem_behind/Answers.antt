use Rattle.std.proofs.Common.{sym, ◌∙◌}
use Rattle.query_reader.proofs.PairFormLemmas.{says_nothing, says_count}
use Rattle.query_reader.proofs.pair_form.problem_behind.Goals as goal

pub returns-in_err-count : goal.returns-in_err-count
returns-in_err-count c =
    rw c.from_residual-in_err-count.ensures
    (says_count _ _ _ _ _ _ _ c.in_ok-aux.ensures.fields c.in_ok-sp.ensures.fields c.in_ok-p2p.ensures.fields
    (sym c.are_words.ensures ∙ c.if-not-are_words.false) _ c.in_err-count.ensures)

pub returns-then-not-are_words : goal.returns-then-not-are_words
returns-then-not-are_words c =
    says_nothing _ _ _ _ _ _ _ c.in_ok-aux.ensures.fields c.in_ok-sp.ensures.fields c.in_ok-p2p.ensures.fields
    (sym c.are_words.ensures ∙ c.if-not-are_words.true)

pub returns : goal.returns
returns c =
    says_count _ _ _ _ _ _ _ c.in_ok-aux.ensures.fields c.in_ok-sp.ensures.fields c.in_ok-p2p.ensures.fields
    (sym c.are_words.ensures ∙ c.if-not-are_words.false) _ c.in_ok-count.ensures
