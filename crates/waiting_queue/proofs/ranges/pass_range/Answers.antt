use Rattle.std.proofs.Common.{◌++◌, arith}
use Rattle.std.specs.Prelude.{IfOk, Result}
use Rattle.list_laws.proofs.SetLaws.{same_by_permutation}
use Rattle.waiting_queue.proofs.RangeLemmas.{all_of_range}
use Rattle.waiting_queue.proofs.ranges.pass_range.Goals as goal

-- what four clauses say together
all_ok : {T E A B C D P : Type 0} (r : Result T E) → (A → B → C → D → P) → IfOk r (λ _. A) → IfOk r (λ _. B) → IfOk r (λ _. C) → IfOk r (λ _. D) → IfOk r (λ _. P)
all_ok r then a b c d = grind arith

pub returns : goal.returns
returns g c =
    all_ok c.pass_anew.result (λ takes sorted shadow descends. record {
      met = c.args.range.now.items.now ++ c.sort_items.new.items.items;
      all = all_of_range g.C.StoredCost.components c.args.range.now _ _ _ _ _ _ c.clear.ensures.items c.in_ok-list_within.ensures c.in_ok-list_within-2.ensures
          (same_by_permutation _ _ c.sort_items.ensures.same);
      takes = takes;
      sorted = sorted;
      shadow = shadow;
      descends = descends;
    }) (rw c.deref.ensures.value at c.pass_anew.ensures.taken) c.pass_anew.ensures.sorted c.pass_anew.ensures.shadow c.pass_anew.ensures.descends
