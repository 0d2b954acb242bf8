use Rattle.std.proofs.Common.{ap, arith, subst, sym}
use Rattle.gen_laws.specs.Laws.{HasNodes}
use Rattle.query_reader.specs.declared.pairs.Pair.{Pair}
use Rattle.road_network.specs.declared.query.Query.{Query}
use Rattle.still_commands.specs.declared.summary.Summary.{Summary}
use Rattle.still_commands.specs.Summary.{CountsPair, pair_of}
use Rattle.still_commands.proofs.CountLemmas.{all_summed, none_summed, one_more_summed, one_pair_more}
use Rattle.still_commands.proofs.counting.Counter.count_pairs.Goals as goal

-- what stands for a pair past the last
abbrev blank : Pair
blank = record { from = 0; to = 0 }

pub loop-pair-init : goal.loop-pair-init
loop-pair-init g c =
    let none = c.of-counts.ensures.none in
    record {
      come = ap (λ (s : Summary). s.pairs) none;
      fits = c.of-counts.ensures.fits;
      sums = none_summed c.args.self.now.network.now c.args.limits.now.budget c.args.pairs.now c.of-counts.result none;
    }

pub count_pair-requires-clause-asked : goal.count_pair-requires-clause-asked
count_pair-requires-clause-asked g c κs within = c.query_between-query.ensures.asked c.args.self.now.network.now.criteria

pub count_pair-requires-clause-nodes : goal.count_pair-requires-clause-nodes
count_pair-requires-clause-nodes g c κs within =
    subst (λ (q : Query). HasNodes c.args.self.now.network.now.nodes (pair_of q)) (sym c.query_between-query.ensures.value)
    (c.requires.nodes c.loop-pair.pair-index blank c.loop-pair-test.true)

pub loop-pair-preserved : goal.loop-pair-preserved
loop-pair-preserved g c =
    let net = c.args.self.now.network.now in
    let counts = subst (λ (q : Query). CountsPair net q.budget (pair_of q) c.loop-pair.counts c.count_pair.new.counts) c.query_between-query.ensures.value
    c.in_ok-count_pair.ensures.counts in
    record {
      come = omega (arith, one_pair_more net _ _ c.loop-pair.counts c.count_pair.new.counts counts, c.loop-pair.invariant.come);
      fits = c.in_ok-count_pair.ensures.fits;
      sums = one_more_summed net c.args.limits.now.budget c.args.pairs.now c.loop-pair.pair-index blank c.loop-pair.counts c.count_pair.new.counts
          c.loop-pair-test.true c.loop-pair.invariant.sums counts;
    }

pub returns : goal.returns
returns g c =
    all_summed c.args.self.now.network.now c.args.limits.now.budget c.args.pairs.now c.loop-pair.pair-index c.loop-pair.counts
    (omega arith) c.loop-pair.invariant.sums
