use Rattle.std.proofs.Common.{◌≡◌, ◌+◌, Ok, length, take, drop, subst, sym, arith}
use Rattle.std.proofs.lemmas.Result.{err_from_is_err_and}
use Rattle.route_io.proofs.SendsLemmas.{Sent, Sends-then}
use Rattle.epoch_follow.specs.Text.{message, messages}
use Rattle.epoch_follow.proofs.SentLemmas.{messages-more, messages-parts, part_cut}
use Rattle.epoch_follow.proofs.put.put_messages.Goals as goal

pub returns-in_err-put_message : goal.returns-in_err-put_message
returns-in_err-put_message g c =
    let p = err_from_is_err_and c.from_residual.result c.from_residual.ensures.1 in
    let css = c.args.sets.now in
    let i = c.loop-set.set-index in
    let epoch = c.args.first + 1 in
    let set = c.set-item.result in
    let number : epoch + i ≡ c.loop-set.epoch + 1 = omega (arith, c.loop-set.invariant.epoch) in
    let part = rw (sym number, c.changes.ensures) at c.in_err-put_message.ensures in
    rw (p.1, p.2) (part_cut _ (messages epoch (take i css)) (message (epoch + i) set) (messages (epoch + length (take (i + 1) css)) (drop (i + 1) css))
    (messages-parts epoch css i _ set c.loop-set-test.true c.set-item.is) _ _ _ c.loop-set.invariant.sent _ part)

pub loop-set-preserved : goal.loop-set-preserved
loop-set-preserved g c =
    let css = c.args.sets.now in
    let i = c.loop-set.set-index in
    let epoch = c.args.first + 1 in
    let set = c.set-item.result in
    let number : epoch + i ≡ c.loop-set.epoch + 1 = omega (arith, c.loop-set.invariant.epoch) in
    let part = rw (sym number, c.changes.ensures) at c.in_ok-put_message.ensures in
    record {
      epoch = omega (arith, c.loop-set.invariant.epoch);
      sent = subst (Sent _ _) (messages-more epoch css i _ set c.loop-set-test.true c.set-item.is)
          (Sends-then _ _ _ (messages epoch (take i css)) (message (epoch + i) set) (Ok tt) c.loop-set.invariant.sent part);
    }
