use Rattle.std.proofs.Common.{rules, sym, ap, ◌∙◌, map, map-id}
use Rattle.std.proofs.lemmas.Iterator.Adapters.{YieldsList-from_vec}
use Rattle.std.proofs.lemmas.Iterator.Consumers.{YieldsList-end}
use Rattle.std.proofs.lemmas.List.Sorted.{IsNonDecreasingBy-from_sort_by_key}
use Rattle.work_claim.proofs.done.in_order.Goals as goal

pub returns : goal.returns
returns g c =
    let done = c.sort_by_key.new.self.items in
    let sorted = c.in_ok-sort_by_key.ensures in
    let road = YieldsList-from_vec {s = c.into_iter-one-iterator.result} done (search rules) (search rules) in
    let end = YieldsList-end road c.loop-one.yielded c.loop-one.one-iterator c.loop-one.yielded_by
    c.next.result c.next.new.self c.in-None.is c.next.ensures.steps in
    record {
      sorted = done;
      moved = sorted.permutation;
      rises = IsNonDecreasingBy-from_sort_by_key (λ d. d.piece) done sorted.sorted (λ a r q k. search rules);
      results = c.loop-one.invariant ∙ ap (map (λ d. d.out)) (sym (map-id c.loop-one.yielded) ∙ end.0);
    }
