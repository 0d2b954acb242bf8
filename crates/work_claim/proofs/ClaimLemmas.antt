-- Each step at the counter keeps its rule, and at the end the last seat's list holds each piece once.
use Rattle.std.proofs.Common.{◌≡◌, ◌≢◌, ℕ, zero, suc, ◌+◌, ◌-◌, ◌%◌, ◌^◌, ◌<◌, ◌≤◌, Bool, true, cond, eqb, ltb, leb, List, [], ◌∷◌, ◌++◌, length, get_or, set, map-id, refl, sym, ap, ap₂, ◌∙◌, subst, arith, length-append, append-nil, add-zero, zero-add}
use Rattle.std.specs.Prelude.{slice_index, Contains, IsPermutation, filter, flat_map}
use Rattle.std.specs.List.{sum_by, count_by, range_with_len}
use Rattle.std.proofs.lemmas.Bool.{eqb-true, lt-ltb, ltb-true, leb-true}
use Rattle.std.proofs.lemmas.Bool.Decides.{nat_tests}
use Rattle.std.proofs.lemmas.List.{get_or-set_same, length-set, nil_from_length}
use Rattle.std.proofs.lemmas.List.Elements.{Contains-get_or}
use Rattle.std.proofs.lemmas.List.FromFn.{length-range_with_len, map-range_with_len_more}
use Rattle.std.proofs.lemmas.List.Kept.{AllPairs-filter}
use Rattle.std.proofs.lemmas.List.Sorted.{IsPermutation-refl, IsPermutation-cons, IsPermutation-sym, IsPermutation-trans, sum_by-IsPermutation}
use Rattle.std.proofs.lemmas.List.Sums.{sum_by-cons, sum_by_push, sum_by-append, sum_by-le, get_or-le-sum_by, length-filter}
use mathlib.Core.Option.{some, some-injective, some-ne-none}
use lib.ListN.{get_elem?}
use Rattle.atomic_table.specs.Table.{State, Me, Allows, Splits, Joins, keeps}
use Rattle.list_laws.specs.Sets.{ListsOnce}
use Rattle.list_laws.proofs.Members.{in_filter, of_filter}
use Rattle.list_laws.proofs.OnceLaws.{lists_in_any_order, range_once, taken_out}
use Rattle.work_claim.specs.Claims.{AddsUp, AreClaims, Claims, Draws, HoldsEachPieceOnce, all_draws, for_nobody, for_one, joined, past, spent, times, unused, with_drawn, without_one}

-- ---- sums over the seats

-- the sum changes by what the seat does
sum_set : (f : Draws → ℕ) (seats : List Draws) (i : ℕ) (s t : Draws) → get_elem? seats i ≡ some s → sum_by f (set seats i t) + f s ≡ sum_by f seats + f t
sum_set f [] i s t e = absurd (some-ne-none s (sym e))
sum_set f (u ∷ us) zero s t e = omega (arith, sum_by-cons f t us, sum_by-cons f u us, ap f (some-injective u s e))
sum_set f (u ∷ us) (suc i) s t e = omega (arith, sum_by-cons f u (set us i t), sum_by-cons f u us, sum_set f us i s t e)

-- what adds up
workers_add : AddsUp (λ s. s.workers)
workers_add = record { none = refl; both = λ s t. refl }

lengths_add : AddsUp (λ s. length s.numbers)
lengths_add = record { none = refl; both = λ s t. length-append s.numbers t.numbers }

counts_add : (p : ℕ → Bool) → AddsUp (λ s. count_by p s.numbers)
counts_add p = record { none = refl; both = λ s t. sum_by-append (λ x. cond (p x) 1 0) s.numbers t.numbers }

-- one number more
adds_drawn : (f : Draws → ℕ) → AddsUp f → (n : ℕ) (s : Draws) → f (with_drawn n s) ≡ f s + f (record { numbers = n ∷ []; workers = 0 })
adds_drawn f adds n s = rw add-zero at (adds.both s (record { numbers = n ∷ []; workers = 0 }))

-- ---- the steps

-- a claim may be made by a seat that has a number past the pieces to draw
pub claim_allowed : (pieces workers slots id : ℕ) (me : Me (Unit {0}) Draws) → pieces + workers < 2 ^ 64 - 1 → past pieces me.0.numbers < me.0.workers
    → Allows (λ (t : State (Unit {0}) Draws). AreClaims pieces workers t.words t.views) slots id me 0 (λ n. (n + 1) % 2 ^ 64) (Claims me)
claim_allowed pieces workers slots id me small may t rule _ seated _ =
    let n = slice_index t.words 0 in
    let s = me.0 in
    let drawn = λ (f : Draws → ℕ). sum_set f t.views id s (with_drawn n s) seated in
    let next : get_or (set t.words 0 ((n + 1) % 2 ^ 64)) 0 0 ≡ n + 1 =
    get_or-set_same t.words 0 ((n + 1) % 2 ^ 64) 0 (omega (arith, rule.one)) ∙ omega (arith, rule.left, small) in
    let numbers = rw (map-id, map-id) at (map-range_with_len_more (λ (x : ℕ). x) 0 n n (zero-add n)) in
    let before = sum_set (λ v. length v.numbers) t.views id s spent seated in (
      with_drawn n s,
      keeps,
      tt,
      record {
        one = length-set t.words 0 ((n + 1) % 2 ^ 64) ∙ rule.one;
        shared = λ f adds. rw (next, numbers)
            (omega (arith, drawn f, rule.shared f adds, adds_drawn f adds n s, adds_drawn f adds n (all_draws n workers)));
        left = rw next (grind (arith, nat_tests, rule.left, may, sum_by_push (λ x. cond (leb pieces x) 1 0) s.numbers n, drawn (unused pieces)));
        idle = grind (arith, nat_tests, rule.idle, may, drawn for_nobody);
      },
      record { drawn = refl; ahead = omega (arith, before, rule.shared (λ v. length v.numbers) lengths_add, length-range_with_len 0 n) },
    )

-- one of several workers may leave a seat that has drawn nothing
pub split_allowed : (pieces workers id : ℕ) (s : Draws) → 2 ≤ s.workers → s.numbers ≡ []
    → Splits (λ (t : State (Unit {0}) Draws). AreClaims pieces workers t.words t.views) id s (without_one s) for_one
split_allowed pieces workers id s several fresh t rule seated =
    let first = λ (f : Draws → ℕ). sum_set f t.views id s (without_one s) seated in
    let second = λ (f : Draws → ℕ). sum_by_push f (set t.views id (without_one s)) for_one in
    let parts : s ≡ joined (without_one s) for_one = ap₂ (λ ns w. record { numbers = ns; workers = w }) (sym (append-nil s.numbers)) (omega (arith, several)) in
    record {
      one = rule.one;
      shared = λ f adds. omega (arith, first f, second f, ap f parts, adds.both (without_one s) for_one, rule.shared f adds);
      left = omega (arith, first (unused pieces), second (unused pieces), ap (past pieces) fresh, several, rule.left);
      idle = grind (arith, nat_tests, first for_nobody, second for_nobody, ap length fresh, several, rule.idle);
    }

-- a seat may take in another
pub join_allowed : (pieces workers id other : ℕ) (s u : Draws)
    → Joins (λ (t : State (Unit {0}) Draws). AreClaims pieces workers t.words t.views) id s other u (joined s u) spent
join_allowed pieces workers id other s u t rule seated apart beside =
    let first = λ (f : Draws → ℕ). sum_set f t.views id s (joined s u) seated in
    let second = λ (f : Draws → ℕ). sum_set f (set t.views id (joined s u)) other u spent beside in
    record {
      one = rule.one;
      shared = λ f adds. omega (arith, first f, second f, adds.none, adds.both s u, rule.shared f adds);
      left = omega (arith, first (unused pieces), second (unused pieces), (counts_add (leb pieces)).both s u, rule.left);
      idle = grind (arith, nat_tests, first for_nobody, second for_nobody, length-append s.numbers u.numbers, rule.idle);
    }

-- ---- the end

-- what is counted is there
of_count : (p : ℕ → Bool) (xs : List ℕ) → 1 ≤ count_by p xs → (x : ℕ) × (Contains xs x × (p x ≡ true))
of_count p xs counted =
    let x = get_or (filter p xs) 0 0 in (x, of_filter p xs x (Contains-get_or (filter p xs) 0 0 (omega (arith, counted, length-filter p xs))))

-- two lists in which each number stands as often are one in another order
permuted : (xs ys : List ℕ) → ((x : ℕ) → times x xs ≡ times x ys) → IsPermutation xs ys
permuted [] [] same = IsPermutation-refl []
permuted [] (y ∷ ys) same = absurd (grind (arith, nat_tests, same y, sum_by-cons (λ z. cond (eqb z y) 1 0) y ys))
permuted (x ∷ xs) ys same =
    let (y, (y_in, is)) = of_count (λ z. eqb z x) ys (grind (arith, nat_tests, same x, sum_by-cons (λ z. cond (eqb z x) 1 0) x xs)) in
    let (zs, out) = taken_out ys x (subst (Contains ys) (eqb-true y x is) y_in) in
    IsPermutation-trans (x ∷ xs) (x ∷ zs) ys (IsPermutation-cons x xs zs (permuted xs zs (λ n.
    let weight : ℕ → ℕ = λ z. cond (eqb z n) 1 0 in
    omega (arith, same n, sum_by-cons weight x xs, sum_by-cons weight x zs, sum_by-IsPermutation weight ys (x ∷ zs) out)))) (IsPermutation-sym ys (x ∷ zs) out)

-- what all seats have drawn
times_of_all : (x : ℕ) (seats : List Draws) → times x (flat_map (λ s. s.numbers) seats) ≡ sum_by (λ s. times x s.numbers) seats
times_of_all x [] = refl
times_of_all x (s ∷ others) = omega (
  arith,
  sum_by-append (λ y. cond (eqb y x) 1 0) s.numbers (flat_map (λ v. v.numbers) others),
  sum_by-cons (λ v. times x v.numbers) s others,
  times_of_all x others,
)

-- each number below the counter stands there once
pub shared_out : (pieces workers : ℕ) (words : List ℕ) (seats : List Draws) → AreClaims pieces workers words seats
    → ListsOnce (λ i. i < slice_index words 0) (flat_map (λ s. s.numbers) seats)
shared_out pieces workers words seats rule =
    let n = slice_index words 0 in
    lists_in_any_order (λ i. i < n) (range_with_len 0 n) (flat_map (λ s. s.numbers) seats)
    (permuted (range_with_len 0 n) (flat_map (λ s. s.numbers) seats)
    (λ x. sym (times_of_all x seats ∙ rule.shared (λ v. times x v.numbers) (counts_add (λ y. eqb y x))))) (range_once n)

-- a seat that stands between others
pub at_place : (before after : List Draws) (s : Draws) → get_elem? (before ++ s ∷ after) (length before) ≡ some s
at_place [] after s = refl
at_place (x ∷ xs) after s = at_place xs after s

-- what the last seat has drawn at the end
pub closed_once : (pieces workers : ℕ) (words : List ℕ) (seats : List Draws) → AreClaims pieces workers words seats → (id : ℕ) (s : Draws)
    → get_elem? seats id ≡ some s → 1 ≤ workers → s.workers ≡ workers → past pieces s.numbers ≡ workers → HoldsEachPieceOnce pieces s.numbers
closed_once pieces workers words seats rule id s seated one all done =
    let n = slice_index words 0 in
    let others = set seats id spent in
    let nobody = sum_set (λ v. v.workers) seats id s spent seated in
    let idle = sum_set for_nobody seats id s spent seated in
    let nothing : (v : Draws) → v.workers ≤ sum_by (λ u. u.workers) others → for_nobody v ≤ sum_by for_nobody others → v ≡ spent = λ v few none.
    let away : v.workers ≡ 0 = omega (arith, few, nobody, all, rule.shared (λ u. u.workers) workers_add) in
    let drawn : v.numbers ≡ [] = nil_from_length v.numbers (grind (arith, nat_tests, away, none, idle, rule.idle)) in
    ap₂ (λ ns w. record { numbers = ns; workers = w }) drawn away in
    let alone : (f : Draws → ℕ) → AddsUp f → f (all_draws n workers) ≡ f s = λ f adds.
    let none = sum_by-le f 0 others (λ k d within.
    let zero = nothing (get_or others k d) (get_or-le-sum_by (λ v. v.workers) others k d within) (get_or-le-sum_by for_nobody others k d within) in
    omega (arith, adds.none, ap f zero)) in
    omega (arith, none, adds.none, rule.shared f adds, sum_set f seats id s spent seated) in
    let lists = lists_in_any_order (λ i. i < n) (range_with_len 0 n) s.numbers
    (permuted (range_with_len 0 n) s.numbers (λ x. alone (λ v. times x v.numbers) (counts_add (λ y. eqb y x)))) (range_once n) in
    let (last, (last_in, past_all)) = of_count (leb pieces) s.numbers (omega (arith, one, done)) in
    let passed : pieces < n = omega (arith, leb-true pieces last past_all, (lists.exact last).0 last_in) in
    record {
      exact = λ i. (
        λ h. ltb-true i pieces (of_filter (λ x. ltb x pieces) s.numbers i h).1,
        λ below. in_filter (λ x. ltb x pieces) s.numbers i ((lists.exact i).1 (omega (arith, below, passed))) (lt-ltb i pieces below),
      );
      once = AllPairs-filter ◌≢◌ (λ x. ltb x pieces) s.numbers lists.once;
    }
