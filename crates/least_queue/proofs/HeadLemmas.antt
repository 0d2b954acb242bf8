-- None comes before the head of the heap.
use Rattle.std.proofs.Common.{◌≡◌, ℕ, List, [], ◌∷◌, map, sym, ap, ◌∙◌}
use Rattle.std.specs.Prelude.{All}
use Rattle.std.specs.declared.cmp.Reverse.{Reverse}
use Rattle.std.specs.declared.cmp.Ordering.{Ordering}
use Rattle.std.specs.BinaryHeap.{IsUpperBound}
use Rattle.std.specs.Ordering.{is_lt, nat_cmp, ordering_then}
use Rattle.std.proofs.lemmas.Bool.{false≢true}
use Rattle.std.proofs.lemmas.List.Elements.{All-nil, All-cons}
use Rattle.cost_vector.specs.Costs.{LexLess, lex_cmp}
use Rattle.waiting_item.specs.Waiting.{Waiting}
use Rattle.waiting_item.specs.declared.item.Item.{Item}
use Rattle.least_queue.specs.Heaps.{least_first, waits}

module _ {C : Type 0} (components : C → List ℕ) (cmp : C → C → Ordering) (orders : (a b : C) → cmp a b ≡ lex_cmp (components a) (components b)) where
  pub none_before : (x : Reverse (Item C)) (xs : List (Reverse (Item C))) → IsUpperBound (least_first cmp) x xs
      → All (λ w. ¬ LexLess w.spot.cost (components x.0.cost)) (map (waits components) xs)
  none_before x [] top = All-nil (λ (w : Waiting). ¬ LexLess w.spot.cost (components x.0.cost))
  none_before x (y ∷ ys) top =
      All-cons (λ (w : Waiting). ¬ LexLess w.spot.cost (components x.0.cost)) (waits components y) (map (waits components) ys) not_less (none_before x ys top.1) where
        not_less : ¬ LexLess (components y.0.cost) (components x.0.cost)
        not_less less =
            let head = orders y.0.cost x.0.cost ∙ less in
            let is = ap (λ o. is_lt (ordering_then o (ordering_then (nat_cmp y.0.node.0 x.0.node.0) (nat_cmp y.0.from.0 x.0.from.0)))) head in
            false≢true (sym top.0 ∙ is)
