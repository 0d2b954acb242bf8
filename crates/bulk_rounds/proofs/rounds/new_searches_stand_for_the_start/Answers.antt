use Rattle.bulk_rounds.proofs.FoundLemmas.{at_start}
use Rattle.bulk_rounds.proofs.rounds.new_searches_stand_for_the_start.Goals as goal

pub returns : goal.returns
returns c = at_start
