use Rattle.std.proofs.Common.{false, get_or, sym, arith}
use Rattle.std.proofs.lemmas.Option.{gets}
use Rattle.waiting_queue.proofs.JoiningLemmas.{goes_back, is_there, joins}
use Rattle.waiting_queue.proofs.joining.join_marked.Goals.{then-marks-i+in_ok-push, else-marks-i+then-not-is_last+in_ok-push-2, else-marks-i+else-not-is_last}
use Rattle.waiting_queue.proofs.joining.join_marked.Goals as goal

pub loop-i-preserved : goal.loop-i-preserved
loop-i-preserved g c =
    let f = g.C.StoredCost.components in
    let all = c.args.all.now in
    let mark = get_or c.args.marks.now c.loop-i.i false in
    let tells = c.requires.marked.each c.loop-i.i c.index-all-i.result mark (grind (arith, gets)) (grind (arith, gets, c.requires.marked.count)) in
    elim c.if-marks-i.branch [
      | then-marks-i+in_ok-push w ↦ rw (w.taken-is, w.back-is, w.in_ok-push.ensures.items)
          (goes_back f all c.requires.sorted c.loop-i-test.true c.index-all-i.is c.loop-i.invariant (tells.0 w.if-marks-i.true))
      | else-marks-i+then-not-is_last+in_ok-push-2 w ↦ rw (w.taken-is, w.back-is, w.in_ok-push-2.ensures.items)
          (joins f all c.requires.sorted c.loop-i-test.true c.index-all-i.is c.loop-i.invariant (λ by. let yes = tells.1 by in grind arith)
          (λ ends. let yes = w.is_last.ensures.1 (rw (sym w.deref.ensures.value) at ends) in grind arith))
      | else-marks-i+else-not-is_last w ↦ rw (w.taken-is, w.back-is)
          (is_there f all c.requires.sorted c.loop-i-test.true c.index-all-i.is c.loop-i.invariant
          (rw w.deref.ensures.value at (w.is_last.ensures.0 w.if-not-is_last.false)))
    ]
