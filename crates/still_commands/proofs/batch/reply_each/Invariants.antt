use Rattle.std.proofs.Common.{drop}
use Rattle.still_commands.specs.Ahead.{AreAhead}
use Rattle.still_commands.proofs.BatchLemmas.{HasReplied}
use Rattle.still_commands.proofs.batch.reply_each.Given as goal

-- the pairs so far have their replies, and some of the next were made ahead
abbrev pub invariant-loop-i : goal.invariant-loop-i
invariant-loop-i g l = record {
  replied : HasReplied l.answerer.mode l.limits l.answerer.network.now l.pairs l.i (g.K.Sink.state l.fn.out) (g.K.Sink.state l.out);
  ahead : AreAhead l.answerer.mode l.limits l.answerer.network.now (drop l.i l.pairs) l.ahead.items;
}
