use Rattle.bulk_rounds.proofs.SpentLemmas.{barred_told, next_told, open_if_stays, stays_below_open}
use Rattle.bulk_rounds.proofs.rounds.next_spots_are_next_labels.Goals as goal

pub returns : goal.returns
returns c = record {
  barred = λ task core s cost at. barred_told task core s at.search at.stands.settled cost;
  open_if_stays = λ task core s y at. open_if_stays task core s at y;
  stays_below_open = λ task core s x at. stays_below_open task core s at x;
  next = λ task core s x at. next_told task core s at x;
}
