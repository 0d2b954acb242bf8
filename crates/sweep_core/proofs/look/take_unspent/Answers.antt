use Rattle.std.proofs.Common.{[], arith}
use Rattle.std.proofs.lemmas.Bool.{iff_false}
use Rattle.list_laws.proofs.Members.{each_in}
use Rattle.waiting_item.specs.Waiting.{Waiting, as_waiting}
use Rattle.sweep_core.specs.Sweeps.{CanTell, IsSpentBy}
use Rattle.sweep_core.proofs.TakingLemmas.{all_left, fewer_wait, loses_more, loses_none, spent_taken, taken_waited, takes_later}
use Rattle.sweep_core.proofs.look.take_unspent.Goals as goal

pub items-init : goal.items-init
items-init g c = loses_none (IsSpentBy (g.S.SettledLists.lists c.args.lists.now) c.args.target.0) (g.Q.LeastQueue.waiting c.args.queue.now)

pub take-requires : goal.take-requires
take-requires g c =
    let lists = g.S.SettledLists.lists c.args.lists.now in let t = c.args.target.0 in
    all_left (IsSpentBy lists t) (λ w. CanTell lists t w.spot) (g.Q.LeastQueue.waiting c.args.queue.now) (g.Q.LeastQueue.waiting c.items.queue) c.items.invariant c.requires

pub is_spent-requires : goal.is_spent-requires
is_spent-requires g c =
    let lists = g.S.SettledLists.lists c.args.lists.now in let t = c.args.target.0 in let waiting = g.Q.LeastQueue.waiting in
    let i = as_waiting g.S.Cost.StoredCost.components c.in-Some.item in
    let told = all_left (IsSpentBy lists t) (λ w. CanTell lists t w.spot) (waiting c.args.queue.now) (waiting c.items.queue) c.items.invariant c.requires in (
      omega arith,
      each_in (λ (w : Waiting). CanTell lists t w.spot) (waiting c.items.queue) told i
          (taken_waited (IsSpentBy lists t) (waiting c.items.queue) (waiting c.take.new.self) i (rw c.in-Some.is at c.in_ok-item.ensures.least)),
    )

pub returns-then-not-is_spent-clause-taken : goal.returns-then-not-is_spent-clause-taken
returns-then-not-is_spent-clause-taken g c =
    let lists = g.S.SettledLists.lists c.args.lists.now in let t = c.args.target.0 in let waiting = g.Q.LeastQueue.waiting in
    let i = as_waiting g.S.Cost.StoredCost.components c.in-Some.item in record {
      takes = takes_later (IsSpentBy lists t) (waiting c.args.queue.now) (waiting c.items.queue) (waiting c.take.new.self) i c.items.invariant (rw c.in-Some.is at c.in_ok-item.ensures.least);
      unspent = iff_false c.is_spent.ensures c.if-not-is_spent.true;
    }

pub items-smaller : goal.items-smaller
items-smaller g c =
    let lists = g.S.SettledLists.lists c.args.lists.now in let t = c.args.target.0 in let waiting = g.Q.LeastQueue.waiting in
    fewer_wait (IsSpentBy lists t) (waiting c.items.queue) (waiting c.take.new.self) (as_waiting g.S.Cost.StoredCost.components c.in-Some.item) (rw c.in-Some.is at c.in_ok-item.ensures.least)

pub items-preserved : goal.items-preserved
items-preserved g c =
    let lists = g.S.SettledLists.lists c.args.lists.now in let t = c.args.target.0 in let waiting = g.Q.LeastQueue.waiting in
    let i = as_waiting g.S.Cost.StoredCost.components c.in-Some.item in
    let spent = c.is_spent.ensures.0 c.if-not-is_spent.false in
    loses_more (IsSpentBy lists t) (waiting c.args.queue.now) (waiting c.items.queue) (waiting c.take.new.self) c.items.invariant
    (spent_taken (IsSpentBy lists t) (waiting c.items.queue) (waiting c.take.new.self) i (rw c.in-Some.is at c.in_ok-item.ensures.least) spent)

pub returns-clause-none : goal.returns-clause-none
returns-clause-none g c =
    let lists = g.S.SettledLists.lists c.args.lists.now in let t = c.args.target.0 in let waiting = g.Q.LeastQueue.waiting in
    loses_more (IsSpentBy lists t) (waiting c.args.queue.now) (waiting c.items.queue) [] c.items.invariant (rw c.in_default.is at c.in_ok-item.ensures.none)
