-- The greatest element of a sorted list and a heap.
use Rattle.std.proofs.Common.{◌≡◌, ℕ, suc, ◌-◌, ◌+◌, ◌<◌, ◌⊎◌, inl, inr, List, [], ◌∷◌, ◌++◌, length, get_or, Option, Some, None, IfSome, IsPermutation, IsSorted, sym, ap, subst, ◌∙◌, arith, true, false}
use Rattle.std.specs.Prelude.{option_to_list}
use Rattle.std.specs.declared.cmp.Ordering.{Ordering}
use Rattle.std.specs.BinaryHeap.{IsHeap, IsUpperBound, PopsGreatest}
use Rattle.std.specs.Cmp.{IsTotalOrder}
use Rattle.std.specs.Ordering.{is_lt}
use Rattle.std.proofs.lemmas.List.{append_assoc, get_or_push, length_push}
use Rattle.std.proofs.lemmas.List.Sorted.{IsPermutation-append_right, IsPermutation-middle, IsPermutation-trans, ranks_by, sorted_far}
use Rattle.least_queue.specs.Heaps.{IsLastBehind}

module _ {T : Type 0} where
  pub run_taken : (run rest heap : List T) (r : Option T) → run ≡ rest ++ option_to_list r
      → IfSome r (λ x. IsPermutation (run ++ heap) (x ∷ (rest ++ heap)))
  run_taken run rest heap None is = tt
  run_taken run rest heap (Some x) is = rw (is, append_assoc) (IsPermutation-middle rest x heap)

  pub heap_taken : (run heap rest : List T) (r : Option T) → IfSome r (λ x. IsPermutation heap (x ∷ rest))
      → IfSome r (λ x. IsPermutation (run ++ heap) (x ∷ (run ++ rest)))
  heap_taken run heap rest None moves = tt
  heap_taken run heap rest (Some x) moves =
      IsPermutation-trans (run ++ heap) (run ++ x ∷ rest) (x ∷ (run ++ rest)) (IsPermutation-append_right run heap (x ∷ rest) moves) (IsPermutation-middle run x rest)

  module _ (cmp : T → T → Ordering) (total : IsTotalOrder cmp) where
    upper_append : (x : T) (xs ys : List T) → IsUpperBound cmp x xs → IsUpperBound cmp x ys → IsUpperBound cmp x (xs ++ ys)
    upper_append x [] ys first second = second
    upper_append x (y ∷ xs) ys first second = (first.0, upper_append x xs ys first.1 second)

    upper_by_place : (x d : T) (xs : List T) → ((k : ℕ) → k < length xs → is_lt (cmp x (get_or xs k d)) ≡ false) → IsUpperBound cmp x xs
    upper_by_place x d [] each = tt
    upper_by_place x d (y ∷ xs) each = (each 0 (omega arith), upper_by_place x d xs (λ k within. each (suc k) (omega arith)))

    pub upper_chain : (x y : T) (xs : List T) → is_lt (cmp x y) ≡ false → IsUpperBound cmp y xs → IsUpperBound cmp x xs
    upper_chain x y [] not_less upper = tt
    upper_chain x y (z ∷ xs) not_less upper =
        ((ranks_by total (λ (a : T). a)).chain x y z not_less upper.0, upper_chain x y xs not_less upper.1)

    last_upper : (d : T) (xs : List T) → IsSorted cmp xs → 0 < length xs → IsUpperBound cmp (get_or xs (length xs - 1) d) xs
    last_upper d xs sorted some =
        upper_by_place (get_or xs (length xs - 1) d) d xs
        (λ k within. sorted_far (λ x y. is_lt (cmp x y)) (ranks_by total (λ (a : T). a)) xs sorted k (length xs - 1) d (omega arith) (omega arith))

    pub run_greatest : (run rest heap : List T) (r : Option T) → run ≡ rest ++ option_to_list r → IsSorted cmp run
        → ((d : T) → IsUpperBound cmp (get_or run (length run - 1) d) heap) → IfSome r (λ x. IsUpperBound cmp x (run ++ heap))
    run_greatest run rest heap None is sorted leads = tt
    run_greatest run rest heap (Some x) is sorted leads =
        let long : length run ≡ length rest + 1 = ap length is ∙ length_push rest x in
        let last : get_or run (length run - 1) x ≡ x =
        ap (λ xs. get_or xs (length run - 1) x) is ∙ get_or_push rest x x (length run - 1) (omega arith) in
        upper_append x run heap
        (subst (λ y. IsUpperBound cmp y run) last (last_upper x run sorted (omega arith)))
        (subst (λ y. IsUpperBound cmp y heap) last (leads x))

    pub heap_greatest : (run heap rest : List T) (r : Option T) → IsSorted cmp run → IsHeap cmp heap → (run ≡ []) ⊎ IsLastBehind cmp run heap
        → IfSome r (λ x. x ≡ get_or heap 0 x) → IfSome r (λ x. PopsGreatest cmp heap x rest) → IfSome r (λ x. IsUpperBound cmp x (run ++ heap))
    heap_greatest run heap rest None sorted is_heap behind top pops = tt
    heap_greatest [] heap rest (Some x) sorted is_heap behind top pops = (pops is_heap).1
    heap_greatest (y ∷ ys) heap rest (Some x) sorted is_heap (inr behind) top pops =
        let run = y ∷ ys in
        let last = get_or run (length run - 1) x in
        let less : is_lt (cmp last x) ≡ true = subst (λ z. is_lt (cmp last z) ≡ true) (sym top) (behind.less x) in
        upper_append x run heap
        (upper_chain x last run ((ranks_by total (λ (a : T). a)).one_way last x less) (last_upper x run sorted (omega arith)))
        (pops is_heap).1
    heap_greatest (y ∷ ys) heap rest (Some x) sorted is_heap (inl none) top pops = absurd (omega (arith, ap length none))
