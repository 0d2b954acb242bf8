use Rattle.bulk_search.proofs.pieces.closed_counters_hold_all_pieces.Goals as goal

pub returns : goal.returns
returns c = λ pieces numbers events once done. record { drawn = once; done = done }
