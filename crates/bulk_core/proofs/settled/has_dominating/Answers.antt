use Rattle.std.proofs.Common.{below_more, arith, sym, ◌∙◌}
use Rattle.std.proofs.lemmas.Bool.{false≢true}
use Rattle.bulk_core.proofs.SpentLemmas.{none_dominates}
use Rattle.bulk_core.proofs.settled.has_dominating.Goals as goal

pub loop-k-preserved : goal.loop-k-preserved
loop-k-preserved g c = below_more _ c.loop-k.k c.loop-k.invariant (λ h. false≢true (sym c.if-covers_less.false ∙ c.covers_less.ensures.1 h))

pub returns : goal.returns
returns g c = (
  λ wrong. absurd (false≢true wrong),
  λ h. absurd (none_dominates _ _ (λ k below. c.loop-k.invariant k (omega (arith, below, c.requires.long, c.loop-k-test.false))) h),
)
