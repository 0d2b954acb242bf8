use Rattle.std.proofs.Common.{arith}
use Rattle.std.proofs.lemmas.List.{take_all}
use Rattle.std.proofs.lemmas.List.Elements.{All-push}
use Rattle.query_reader.specs.declared.pairs.Pair.{Pair}
use Rattle.road_network.specs.Queries.{IsAsked}
use Rattle.still_commands.proofs.AheadLemmas.{made_for_first, one_more_between}
use Rattle.still_commands.proofs.batch.make_ahead.Goals as goal

-- what stands for a pair past the last
abbrev blank : Pair
blank = record { from = 0; to = 0 }

pub loop-pair-preserved : goal.loop-pair-preserved
loop-pair-preserved g c =
    let asked = IsAsked c.args.answerer.now.network.now.criteria in
    let query = c.query_between.ensures in
    record {
      between = rw c.in_ok-push.ensures.items (one_more_between c.args.limits.now c.args.pairs.now c.loop-pair.pair-index blank
          c.loop-pair.queries.items c.query_between.result c.loop-pair-test.true c.loop-pair.invariant.between query.value);
      asked = rw c.in_ok-push.ensures.items (All-push asked c.loop-pair.queries.items c.query_between.result c.loop-pair.invariant.asked
          (query.asked c.args.answerer.now.network.now.criteria));
    }

pub returns : goal.returns
returns g c =
    let pairs = c.args.pairs.now in
    let whole = take_all c.loop-pair.pair-index pairs (omega arith) in
    let all = rw (c.deref.ensures.value, c.loop-pair.invariant.between, whole) at c.in_ok-made.ensures in
    rw c.reverse.ensures.items (made_for_first c.args.answerer.now.mode c.args.limits.now c.args.answerer.now.network.now pairs c.in_ok-made.made.items all)
