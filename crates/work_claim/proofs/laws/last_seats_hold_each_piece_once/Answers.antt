use Rattle.std.proofs.Common.{◌∷◌, ◌++◌, length}
use Rattle.work_claim.proofs.ClaimLemmas.{at_place, closed_once}
use Rattle.work_claim.proofs.laws.last_seats_hold_each_piece_once.Goals as goal

pub returns : goal.returns
returns c = λ pieces workers words before after s rule.
    closed_once pieces workers words (before ++ s ∷ after) rule (length before) s (at_place before after s)
