use Rattle.std.proofs.Common.{length}
use Rattle.route_io.proofs.OffersLemmas.{OfferedUpTo}
use Rattle.route_io.proofs.SendsLemmas.{SentUpTo}
use Rattle.route_io.proofs.sink.put_all.Given as goal

abbrev pub invariant-loop-rest : goal.invariant-loop-rest
invariant-loop-rest g l =
    SentUpTo (g.K.Sink.state l.fn.sink) (g.K.Sink.state l.sink) l.text l.rest
    × OfferedUpTo (g.K.Sink.state l.fn.sink) (g.K.Sink.state l.sink) l.text l.rest

abbrev pub decreases-loop-rest : goal.decreases-loop-rest
decreases-loop-rest g l = length l.rest
