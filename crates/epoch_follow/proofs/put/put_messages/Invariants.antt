use Rattle.std.proofs.Common.{◌≡◌, ◌+◌, take}
use Rattle.route_io.proofs.SendsLemmas.{Sent}
use Rattle.epoch_follow.specs.Text.{messages}
use Rattle.epoch_follow.proofs.put.put_messages.Given as goal

-- the messages of the first ones were sent
abbrev pub invariant-loop-set : goal.invariant-loop-set
invariant-loop-set g l = record {
  epoch : l.epoch ≡ l.first + l.set-index;
  sent : Sent (g.K.Sink.state l.fn.sink) (g.K.Sink.state l.sink) (messages (l.first + 1) (take l.set-index l.sets));
}
