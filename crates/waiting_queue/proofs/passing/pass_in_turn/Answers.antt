use Rattle.std.proofs.Common.{◌≡◌, [], ◌+◌, ◌-◌, append-nil, arith}
use Rattle.std.proofs.lemmas.List.{drop_all}
use Rattle.std.proofs.lemmas.Result.{IfOk-weaker}
use Rattle.list_laws.proofs.Members.{in_none}
use Rattle.waiting_queue.proofs.PassingLemmas.{begins_at, passed_turn}
use Rattle.waiting_queue.proofs.passing.pass_in_turn.Goals as goal

pub loop-i-init : goal.loop-i-init
loop-i-init g c = record {
  descends = c.requires.none.descends;
  left_sorted = c.requires.sorted;
  new_sorted = c.requires.fresh_sorted;
  passes = λ order same sorted costs took rest on. (order, same, on [] (record { sorted = sorted; behind = λ x y h. absurd (in_none x h) }) c.requires.none);
}

pub loop-i-preserved : goal.loop-i-preserved
loop-i-preserved g c =
    let begins = begins_at c.args.fresh.now c.loop-i.i c.index-fresh-i.result c.loop-i-test.true c.index-fresh-i.is in
    let single : c.loop-i.i + 1 - c.loop-i.i ≡ 1 = omega arith in
    rw c.split_at.ensures.back (passed_turn g.C.StoredCost.components (g.K.Look.IsOpen c.args.look.now) (rw begins at c.loop-i.invariant)
    c.in_ok-pass_all-2.ensures.descends c.count_before.result c.count_before.ensures (rw c.split_at.ensures.front at c.in_ok-pass_all.ensures.passed)
    (rw (single, begins) at c.in_ok-pass_all-2.ensures.passed))

pub returns : goal.returns
returns g c =
    let left = rw (drop_all c.loop-i.i c.args.fresh.now (omega (arith, c.loop-i-test.false))) at c.loop-i.invariant in
    IfOk-weaker c.pass_all-2.result _ _ (λ _. left.passes c.loop-i.left.now (λ x. rw append-nil (λ h. h, λ h. h)) left.left_sorted _ _ _)
    c.pass_all-2.ensures.passed
