use Rattle.std.proofs.Common.{Err, Ok, subst}
use Rattle.arc_graph.specs.History.{Operator, sets}
use Rattle.epoch_store.specs.Origin.{IsOperatorIn}
use Rattle.epoch_follow.specs.Text.{feed_text, head_of}
use Rattle.route_io.specs.Sinks.{Sends}
use Rattle.route_lanes.proofs.LeaderLemmas.{not_starved}
use Rattle.route_lanes.proofs.leader.write_published.Goals as goal

pub returns-in-Err : goal.returns-in-Err
returns-in-Err g c =
    let served = c.serve_operator.ensures in
    let head = head_of c.args.context.now.graph.now g.T.Store.origin.first in
    let Sent : Operator → Type 0 = λ o. Sends {T = Unit {0}} (g.O.Sink.state c.args.out.now) (g.O.Sink.state c.put_feed.new.sink)
    (feed_text head o.published 1 (sets o.published)) (Err c.in-Err.fault) in
    record {
      is_graph = c.nodes-nodes.ensures.graph;
      left = served.0;
      operator = subst (IsOperatorIn g.T.Store.origin) served.1 c.number-number.ensures.operator;
      end = c.serve_operator.result;
      remembered = not_starved c.serve_operator.result c.in_default.not-OutOfMemory;
      serves = rw c.requires.new at served.2;
      sends = subst Sent served.1 c.in-Err.ensures;
    }

pub returns-in-Ok : goal.returns-in-Ok
returns-in-Ok g c =
    let served = c.serve_operator.ensures in
    let head = head_of c.args.context.now.graph.now g.T.Store.origin.first in
    let Sent : Operator → Type 0 = λ o. Sends {T = Unit {0}} (g.O.Sink.state c.args.out.now) (g.O.Sink.state c.put_feed.new.sink)
    (feed_text head o.published 1 (sets o.published)) (Ok tt) in
    record {
      is_graph = c.nodes-nodes.ensures.graph;
      left = served.0;
      operator = subst (IsOperatorIn g.T.Store.origin) served.1 c.number-number.ensures.operator;
      end = c.serve_operator.result;
      remembered = not_starved c.serve_operator.result c.in_default.not-OutOfMemory;
      serves = rw c.requires.new at served.2;
      sends = subst Sent served.1 c.in-Ok.ensures;
    }
