use Rattle.std.proofs.Common.{rules}
use Rattle.std.proofs.lemmas.Result.{err_from_is_err_and}
use Rattle.std.proofs.lemmas.Slice.{between_to_end}
use Rattle.route_io.proofs.OffersLemmas.{offered_all, offered_more, offered_rest}
use Rattle.route_io.proofs.SendsLemmas.{more_sent, sent_part, sent_whole}
use Rattle.route_io.proofs.sink.put_all.Goals as goal

pub loop-rest-preserved : goal.loop-rest-preserved
loop-rest-preserved g c = (
  more_sent _ _ _ _ _ _ _ c.loop-rest.invariant.0 c.in_ok-taken.ensures (search (rules, between_to_end)),
  offered_more _ _ _ _ _ (search rules) c.in_ok-taken.ensures.offered _ _ c.in_ok-taken.ensures.some c.in_ok-taken.ensures.within
      (search (rules, between_to_end)) c.loop-rest.invariant.1,
)

pub returns-in_err-taken-clause-sent : goal.returns-in_err-taken-clause-sent
returns-in_err-taken-clause-sent g c =
    let p = err_from_is_err_and c.from_residual.result c.from_residual.ensures.1 in
    rw (p.1, p.2) (sent_part _ _ _ _ _ _ (search rules) c.loop-rest.invariant.0 c.in_err-taken.ensures)

pub returns-in_err-taken-clause-whole : goal.returns-in_err-taken-clause-whole
returns-in_err-taken-clause-whole g c = offered_rest _ _ _ _ _ (search rules) c.in_err-taken.ensures.offered c.loop-rest.invariant.1

pub returns-clause-sent : goal.returns-clause-sent
returns-clause-sent g c = sent_whole _ _ _ _ (search rules) c.loop-rest.invariant.0

pub returns-clause-whole : goal.returns-clause-whole
returns-clause-whole g c = offered_all _ _ _ _ (search rules) c.loop-rest.invariant.1
