-- The least item of what is opened.
use Rattle.std.proofs.Common.{◌≡◌, ℕ, ◌/◌, ◌^◌, ◌<◌, ◌≤◌, inl, inr, List, [], ◌∷◌, ◌++◌, map, get_or, IsPermutation, All, sym, ap, subst, refl, arith}
use Rattle.std.specs.declared.cmp.Reverse.{Reverse}
use Rattle.std.specs.declared.cmp.Ordering.{Ordering}
use Rattle.std.specs.declared.cmp.Ordering.TheVariants.{Less}
use Rattle.std.specs.BinaryHeap.{IsUpperBound}
use Rattle.std.specs.Cmp.{nat_cmp_is}
use Rattle.std.specs.Ordering.{ordering_then}
use Rattle.std.proofs.Math.Pow.{shr_mono}
use Rattle.std.proofs.lemmas.Bool.{cases_lt}
use Rattle.std.proofs.lemmas.List.{map-append}
use Rattle.std.proofs.lemmas.List.Elements.{All-append, All-map, All-weaker}
use Rattle.std.proofs.lemmas.List.Sorted.{IsPermutation-append_left, IsPermutation-map}
use Rattle.cost_vector.specs.Costs.{LexLess, lex_cmp}
use Rattle.cost_vector.proofs.Vectors.{LexLess-irrefl, LexLess-trans}
use Rattle.waiting_item.specs.Waiting.{Waiting}
use Rattle.waiting_item.specs.declared.item.Item.{Item}
use Rattle.sweep_parts.specs.Leaving.{Leaves}
use Rattle.least_queue.specs.Heaps.{least_first, waits}
use Rattle.least_queue.specs.Buckets.{AreBuckets, Buckets, all_of, bucket_number, opened, unopened}
use Rattle.least_queue.proofs.BucketLemmas.{unopened_later, with_opened}
use Rattle.least_queue.proofs.HeadLemmas.{none_before}

first_less : (a b : List ℕ) → get_or a 0 0 < get_or b 0 0 → LexLess a b
first_less [] [] less = absurd (omega arith)
first_less [] (y ∷ ys) less = refl
first_less (x ∷ xs) [] less = absurd (omega arith)
first_less (x ∷ xs) (y ∷ ys) less = ap (λ o. ordering_then o (lex_cmp xs ys)) (sym (nat_cmp_is x y Less less))

never : (m n : ℕ) → m < n → ¬ (n ≤ m)
never m n less not = absurd (omega arith)

-- what is of a later bucket doesn't come before
pub not_before : (shift : ℕ) (a b : List ℕ) → get_or b 0 0 / 2 ^ shift < get_or a 0 0 / 2 ^ shift → ¬ LexLess a b
not_before shift a b less before = elim (cases_lt (get_or b 0 0) (get_or a 0 0)) [
  | inl first ↦ LexLess-irrefl a (LexLess-trans a b a before (first_less b a first))
  | inr not ↦ never (get_or b 0 0 / 2 ^ shift) (get_or a 0 0 / 2 ^ shift) less (shr_mono shift not)
]

module _ {C : Type 0} (components : C → List ℕ) (cmp : C → C → Ordering) (orders : (a b : C) → cmp a b ≡ lex_cmp (components a) (components b)) where
  pub takes_least : {b : Buckets (Reverse (Item C))} (is : AreBuckets (least_first cmp) (bucket_number components b.shift) b) (x : Reverse (Item C)) (run heap : List (Reverse (Item C)))
      → IsUpperBound (least_first cmp) x (opened b) → IsPermutation (opened b) (x ∷ (run ++ heap)) → bucket_number components b.shift x ≤ b.current
      → Leaves (map (waits components) (all_of b)) (waits components x) (map (waits components) (all_of (with_opened b run heap)))
  takes_least {b} is x run heap upper moves early = record {
    least = subst (All P) (sym (map-append (waits components) (opened b) (unopened b)))
        (All-append P (map (waits components) (opened b)) (map (waits components) (unopened b))
        (none_before components cmp orders x (opened b) upper)
        (All-map P (waits components) (unopened b)
        (All-weaker (λ e. b.current < bucket_number components b.shift e) (λ e. P (waits components e))
        (λ e later. not_before b.shift (components e.0.cost) (components x.0.cost) (below _ _ _ early later)) (unopened b) (unopened_later is))));
    rest = IsPermutation-map (waits components) (all_of b) (x ∷ all_of (with_opened b run heap))
        (IsPermutation-append_left (unopened b) (opened b) (x ∷ (run ++ heap)) moves);
  } where
    P : Waiting → Type 0
    P w = ¬ LexLess w.spot.cost (components x.0.cost)

    below : (m n k : ℕ) → m ≤ n → n < k → m < k
    below m n k first second = omega arith
