use Rattle.bulk_rounds.proofs.KeptLemmas.{kept_after, next_apart, next_unsettled, one_count, spares_after}
use Rattle.bulk_rounds.proofs.laws.taken_spots_are_spared.Goals as goal

pub returns : goal.returns
returns c = search (next_unsettled, next_apart, spares_after, one_count, kept_after)
