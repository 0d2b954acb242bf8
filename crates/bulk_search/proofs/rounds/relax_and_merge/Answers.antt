use Rattle.std.proofs.lemmas.Result.{IfOk-weaker}
use Rattle.bulk_search.proofs.OnwardLemmas.{keeps_survivors}
use Rattle.bulk_search.proofs.rounds.relax_and_merge.Goals as goal

pub returns-clause-kept : goal.returns-clause-kept
returns-clause-kept g c = rw (← c.in_ok-relax.ensures.candidates) (keeps_survivors _ _ _ c.in_ok-merge.ensures)
