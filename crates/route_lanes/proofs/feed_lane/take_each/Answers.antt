use Rattle.std.proofs.Common.{◌<◌, ◌≤◌, get_or, length, ap, refl, subst, sym, arith}
use Rattle.arc_graph.specs.History.{History, Operator}
use Rattle.route_lanes.specs.Taken.{TakesFirst}
use Rattle.route_lanes.proofs.FeedLemmas.{takes_all, takes_more, takes_none}
use Rattle.route_lanes.proofs.feed_lane.take_each.Goals as goal

pub loop-k-init : goal.loop-k-init
loop-k-init g c =
    let graph = c.args.context.now.graph.now in
    let o = g.T.Store.origin in
    let feeds = c.args.feeds.now in
    let reports = c.args.reports.now in
    let first : History → Type 0 = λ h. TakesFirst g.F.Source.state graph o 0 feeds feeds reports.items h in record {
      idle = ap (λ (p : Operator). p.pending) c.requires.new;
      first = subst first (sym (ap (λ (p : Operator). p.published) c.requires.new)) (takes_none g.F.Source.state graph o feeds reports.items c.requires.none);
      count = omega (arith, reports.ok.0, ap length c.requires.none);
      room = c.requires.room;
    }

pub loop-k-preserved : goal.loop-k-preserved
loop-k-preserved g c =
    let graph = c.args.context.now.graph.now in
    let o = g.T.Store.origin in
    let loop = c.loop-k in
    let k = loop.k in
    let within : k < length c.args.feeds.now = omega arith in
    let took = c.take_feed-end.ensures in
    let first = takes_more g.F.Source.state graph o k c.args.feeds.now loop.feeds loop.reports.items loop.operator.published
    c.take_feed-end.new.operator.published (get_or loop.feeds k c.index-feeds-k.result) c.take_feed-end.new.source c.index-feeds-k.result
    (record { end = c.take_feed-end.result; number = c.number-number.result }) within loop.invariant.first refl
    (record { takes = took.takes; begins = took.begins; reads = took.source; number = c.number-number.ensures.number }) in
    record {
      idle = took.nothing_pending;
      first = rw c.push_reserved.ensures.items first;
      count = omega (arith, c.push_reserved.ensures.len, loop.invariant.count);
      room = omega (arith, c.push_reserved.ensures.capacity, loop.invariant.room);
    }

pub returns-clause-takes : goal.returns-clause-takes
returns-clause-takes g c =
    let graph = c.args.context.now.graph.now in
    let loop = c.loop-k in
    let past : length c.args.feeds.now ≤ loop.k = omega arith in
    takes_all g.F.Source.state graph g.T.Store.origin loop.k c.args.feeds.now loop.feeds loop.reports.items loop.operator.published past loop.invariant.first
