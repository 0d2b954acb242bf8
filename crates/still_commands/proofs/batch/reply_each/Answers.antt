use Rattle.std.proofs.Common.{Ok, Err, arith, refl, rules, subst, sym}
use Rattle.std.specs.Prelude.{IfSome}
use Rattle.std.proofs.lemmas.Result.{err_from_is_err_and}
use Rattle.query_reader.specs.declared.pairs.Pair.{Pair}
use Rattle.road_network.specs.declared.query.AnswerKind.TheVariants.{Walks}
use Rattle.road_network.specs.declared.query.Query.{Query}
use Rattle.session_core.specs.Making.{IsMade}
use Rattle.session_core.specs.Queries.{RepliesToQuery}
use Rattle.session_core.specs.Sending.{Replied}
use Rattle.still_commands.proofs.AheadLemmas.{taken_behind}
use Rattle.still_commands.proofs.BatchLemmas.{all_replied, ends_at_pair, none_replied, one_more_replied}
use Rattle.still_commands.proofs.batch.reply_each.Goals as goal

-- what stands for a pair past the last
abbrev blank : Pair
blank = record { from = 0; to = 0 }

pub loop-i-init : goal.loop-i-init
loop-i-init g c = record {
  replied = none_replied c.args.answerer.now.mode c.args.limits.now c.args.answerer.now.network.now c.args.pairs.now _;
  ahead = rw c.new-ahead.ensures.items tt;
}

pub reply_as_made-requires : goal.reply_as_made-requires
reply_as_made-requires g c =
    let net = c.args.answerer.now.network.now in
    let taken = taken_behind c.args.answerer.now.mode c.args.limits.now net c.args.pairs.now c.loop-i.i blank _ _ _ c.loop-i-test.true c.refill.ensures (c.take_next-made.ensures c.args.answerer.now.mode c.args.limits.now net) in
    let made = subst (λ (query : Query). IfSome c.take_next-made.result (IsMade net c.args.answerer.now.mode 0 Walks query)) (sym c.query_between-query.ensures.value) taken.0 in
    search (rules, made, c.query_between-query.ensures.asked)

pub loop-i-preserved : goal.loop-i-preserved
loop-i-preserved g c =
    let net = c.args.answerer.now.network.now in
    let mid = g.K.Sink.state c.loop-i.out in
    let replied = g.K.Sink.state c.reply_as_made.new.out in
    let is = c.query_between-query.ensures.value in
    let sends = subst (λ (query : Query). Replied (RepliesToQuery net c.args.answerer.now.mode 0 Walks query) mid replied (Ok c.in_ok-reply_as_made.field-0)) is c.in_ok-reply_as_made.ensures in
    let taken = taken_behind c.args.answerer.now.mode c.args.limits.now net c.args.pairs.now c.loop-i.i blank _ _ _ c.loop-i-test.true c.refill.ensures (c.take_next-made.ensures c.args.answerer.now.mode c.args.limits.now net) in
    record {
      replied = one_more_replied c.args.answerer.now.mode c.args.limits.now net c.args.pairs.now c.loop-i.i blank _ c.loop-i-test.true refl _ _ _ c.loop-i.invariant.replied _ sends;
      ahead = taken.1;
    }

pub returns-in_err-reply_as_made : goal.returns-in_err-reply_as_made
returns-in_err-reply_as_made g c =
    let p = err_from_is_err_and c.from_residual.result c.from_residual.ensures.1 in
    let net = c.args.answerer.now.network.now in
    let mid = g.K.Sink.state c.loop-i.out in
    let replied = g.K.Sink.state c.reply_as_made.new.out in
    let is = c.query_between-query.ensures.value in
    let sends = subst (λ (query : Query). Replied (RepliesToQuery net c.args.answerer.now.mode 0 Walks query) mid replied (Err c.in_err-reply_as_made.field-0.0)) is c.in_err-reply_as_made.ensures in
    rw (p.1, p.2)
    (ends_at_pair c.args.answerer.now.mode c.args.limits.now net c.args.pairs.now c.loop-i.i blank _ c.loop-i-test.true refl _ _ _ c.loop-i.invariant.replied _ sends)

pub returns : goal.returns
returns g c =
    all_replied c.args.answerer.now.mode c.args.limits.now c.args.answerer.now.network.now c.args.pairs.now c.loop-i.i _ _
    (omega arith) c.loop-i.invariant.replied
