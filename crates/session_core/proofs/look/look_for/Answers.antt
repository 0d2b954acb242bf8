use Rattle.std.proofs.Common.{refl, inl, arith}
use Rattle.session_core.proofs.WaitLemmas.{looks_anew, waits_on}
use Rattle.session_core.proofs.RunLemmas.{sees_more}
use Rattle.session_core.proofs.look.look_for.Goals as goal

pub loop-init : goal.loop-init
loop-init g c = record { nap = omega arith; seen = inl refl; waits = λ unclosed. (unclosed, omega arith) }

pub loop-preserved : goal.loop-preserved
loop-preserved g c = record {
  nap = omega arith;
  seen = sees_more g.T.Store.origin c.args.reader.now.seen c.loop.reader.seen c.look_once.new.reader.seen c.loop.invariant.seen c.look_once.ensures.seen;
  waits = waits_on c.args.reader.now c.loop.reader c.look_once.new.reader c.loop.invariant.waits (c.in_default.ensures.waits refl);
}

pub returns-in-Some-look_once-clause-looked : goal.returns-in-Some-look_once-clause-looked
returns-in-Some-look_once-clause-looked g c = looks_anew c.args.reader.now c.loop.reader c.look_once.new.reader c.loop.invariant.waits c.in-Some-look_once.ensures.looked
