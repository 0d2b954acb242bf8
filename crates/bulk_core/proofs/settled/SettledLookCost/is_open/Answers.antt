use Rattle.std.proofs.Common.{sym, ◌∙◌}
use Rattle.std.proofs.lemmas.Bool.{false≢true}
use Rattle.bulk_core.proofs.SpentLemmas.{not_either}
use Rattle.bulk_core.proofs.settled.SettledLookCost.is_open.Goals as goal

pub returns-then-not-covers : goal.returns-then-not-covers
returns-then-not-covers g c = let barred = rw (← c.self.view_is) at c.bars.ensures in
    rw (← c.self.view_is) (not_either c.bars.result (λ h. false≢true (sym c.if-not-covers.true ∙ c.covers.ensures.1 h)) barred)
