use Rattle.std.proofs.Common.{◌++◌}
use Rattle.event_machine.proofs.Keeping.{sound_if_reached}
use Rattle.event_machine.proofs.CompletesLaws.{completes_to_outcome, pieces_complete}
use Rattle.bulk_search.proofs.pieces.rounds_end_alike_for_all_pieces.Goals as goal

pub returns : goal.returns
returns c = λ task s end labels arrivals relaxes drawn drawn_next first second is reached relaxing done merging done_next.
    completes_to_outcome task is s (sound_if_reached task is s reached) (first ++ second)
    (pieces_complete task.network s labels arrivals relaxes drawn drawn_next first second relaxing done merging done_next) end
