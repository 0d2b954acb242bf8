use Rattle.std.proofs.Common.{inl, inr}
use Rattle.bulk_rounds.proofs.KeptLemmas.{kept_as}
use Rattle.bulk_rounds.proofs.laws.put_items_are_kept.Goals as goal

pub returns : goal.returns
returns c = λ candidates before after count puts each kept.
    kept_as puts.same_search puts.settled count (λ i there. elim (each i there) [ inl old ↦ kept.items i old | inr new ↦ new ]) kept
