use Rattle.event_machine.proofs.CompletesLaws.{pieces_complete}
use Rattle.event_machine.proofs.pieces.pieces_complete_rounds.Goals as goal

pub returns : goal.returns
returns c = λ net s labels arrivals relaxes. pieces_complete net s labels arrivals relaxes
