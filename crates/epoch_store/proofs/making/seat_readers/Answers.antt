use Rattle.std.proofs.Common.{◌≡◌, [], arith, Some}
use Rattle.std.proofs.lemmas.List.Elements.{All-pop, All-push}
use Rattle.arc_graph.specs.History.{History}
use Rattle.epoch_store.specs.Readers.{unread}
use Rattle.epoch_store.proofs.RuleLemmas.{new_reader}
use Rattle.epoch_store.proofs.making.seat_readers.Goals as goal

abbrev Unread : History → Type 0
Unread h = h ≡ []

pub reader-requires : goal.reader-requires
reader-requires g c = new_reader g.S.Store.origin

pub new-requires-clause-unread : goal.new-requires-clause-unread
new-requires-clause-unread g c =
    let all = c.loop-shown in
    (All-pop Unread all.rest.items c.pop.new.self.items (Some c.in-Some.shown) c.in-Some.ensures.items all.invariant.waiting).1

pub loop-shown-preserved : goal.loop-shown-preserved
loop-shown-preserved g c =
    let all = c.loop-shown in
    let parts = All-pop Unread all.rest.items c.pop.new.self.items (Some c.in-Some.shown) c.in-Some.ensures.items all.invariant.waiting in
    record {
      count = omega (arith, all.invariant.count, c.in-Some.ensures.cases, c.in_ok-push.ensures.len);
      waiting = parts.0;
      seated = rw c.in_ok-push.ensures.items (All-push (λ x. x ≡ unread) all.seated.items c.new.result all.invariant.seated c.new.ensures);
    }
