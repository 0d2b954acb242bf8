use Rattle.std.proofs.Common.{◌≤◌}
use Rattle.session_core.specs.Answering.{SeesOn, Waits}
use Rattle.session_core.proofs.look.look_for.Given as goal

-- so far it waits, and the nap is short
abbrev pub invariant-loop : goal.invariant-loop
invariant-loop g l = record {
  nap : l.nap ≤ 20000;
  seen : SeesOn g.T.Store.origin l.fn.reader.seen l.reader.seen;
  waits : Waits l.fn.reader l.reader;
}
