-- What waits in buckets.
use Rattle.std.proofs.Common.{◌≡◌, ℕ, ◌-◌, ◌^◌, ◌<◌, ◌≤◌, ◌⊎◌, inl, inr, List, [], ◌∷◌, ◌++◌, length, map, min, Option, Some, None, IfSome, IfNone, IsPermutation, IsSorted, All, sym, ap, subst, refl, ◌∙◌, arith}
use Rattle.std.specs.Prelude.{Contains}
use Rattle.std.specs.declared.cmp.Ordering.{Ordering}
use Rattle.std.specs.BinaryHeap.{IsHeap}
use Rattle.std.proofs.lemmas.Bool.{cases_lt}
use Rattle.std.proofs.lemmas.List.{append-nil, append_assoc, map-append}
use Rattle.std.proofs.lemmas.List.Elements.{All-append, All-cons, All-head, All-nil, All-push, All-tail, All-weaker, Contains-append_left, Contains-append_right}
use Rattle.std.proofs.lemmas.List.Sorted.{All-permutation, IsPermutation-append, IsPermutation-append_comm, IsPermutation-append_left, IsPermutation-append_right, IsPermutation-map, IsPermutation-middle, IsPermutation-sym, IsPermutation-trans}
use Rattle.list_laws.proofs.Members.{all_from_in, each_in, in_first}
use Rattle.waiting_item.specs.Waiting.{Spot, Waiting}
use Rattle.sweep_parts.specs.Leaving.{LosesSpent}
use Rattle.least_queue.specs.Rings.{EachFits, HasBucket, Puts, TakesOut, bucket_at, reach_from, ring_items}
use Rattle.least_queue.specs.Buckets.{AreBuckets, Behind, Buckets, FarBehind, IsNext, all_of, opened, unopened}
use Rattle.least_queue.proofs.RingLemmas.{fits_after, fits_items, fits_more, fits_put, fits_taken, no_items, put_in_ring, put_long}
use Rattle.least_queue.proofs.LosesLemmas.{loses_beside, loses_order, loses_twice}

module _ {T : Type 0} where
  first_part : (P : T → Type 0) (xs ys : List T) → All P (xs ++ ys) → All P xs
  first_part P xs ys all = all_from_in P xs (λ x there. each_in P (xs ++ ys) all x (Contains-append_left xs ys x there))

  second_part : (P : T → Type 0) (xs ys : List T) → All P (xs ++ ys) → All P ys
  second_part P xs ys all = all_from_in P ys (λ x there. each_in P (xs ++ ys) all x (Contains-append_right xs ys x there))

  pub none_first : (xs ys : List T) → xs ++ ys ≡ [] → xs ≡ []
  none_first [] ys none = refl
  none_first (x ∷ xs) ys none = absurd (omega (arith, ap length none))

  none_second : (xs ys : List T) → xs ++ ys ≡ [] → ys ≡ []
  none_second [] ys none = none
  none_second (x ∷ xs) ys none = absurd (omega (arith, ap length none))

  -- with another part
  abbrev pub with_heap : Buckets T → List T → Buckets T
  with_heap b heap = record { shift = b.shift; current = b.current; run = b.run; heap = heap; ring = b.ring; far = b.far; far_least = b.far_least }

  abbrev pub with_ring : Buckets T → List (ℕ × List T) → Buckets T
  with_ring b ring = record { shift = b.shift; current = b.current; run = b.run; heap = b.heap; ring = ring; far = b.far; far_least = b.far_least }

  abbrev pub with_far : Buckets T → List T → ℕ → Buckets T
  with_far b far least = record { shift = b.shift; current = b.current; run = b.run; heap = b.heap; ring = b.ring; far = far; far_least = least }

  abbrev pub with_opened : Buckets T → List T → List T → Buckets T
  with_opened b run heap = record { shift = b.shift; current = b.current; run = run; heap = heap; ring = b.ring; far = b.far; far_least = b.far_least }

  module _ {cmp : T → T → Ordering} {number : T → ℕ} {b : Buckets T} (is : AreBuckets cmp number b) where
    -- an item comes to the heap
    pub heap_waits : (e : T) (heap : List T) → IsPermutation (e ∷ b.heap) heap → IsPermutation (e ∷ all_of b) (all_of (with_heap b heap))
    heap_waits e heap moves =
        let run = b.run in
        let front = IsPermutation-sym (run ++ e ∷ b.heap) (e ∷ (run ++ b.heap)) (IsPermutation-middle run e b.heap) in
        let inner = IsPermutation-append_right run (e ∷ b.heap) heap moves in
        IsPermutation-append_left (unopened b) (e ∷ (run ++ b.heap)) (run ++ heap)
        (IsPermutation-trans (e ∷ (run ++ b.heap)) (run ++ e ∷ b.heap) (run ++ heap) front inner)

    -- an item comes to what isn't opened
    behind_waits : (e : T) (now : List T) → IsPermutation (e ∷ unopened b) now → IsPermutation (e ∷ all_of b) (opened b ++ now)
    behind_waits e now moves =
        IsPermutation-trans (e ∷ all_of b) (opened b ++ e ∷ unopened b) (opened b ++ now)
        (IsPermutation-sym (opened b ++ e ∷ unopened b) (e ∷ all_of b) (IsPermutation-middle (opened b) e (unopened b)))
        (IsPermutation-append_right (opened b) (e ∷ unopened b) now moves)

    -- to the ring
    pub ring_waits : (e : T) (n : ℕ) (ring : List (ℕ × List T)) → Puts b.ring n e ring → IsPermutation (e ∷ all_of b) (all_of (with_ring b ring))
    ring_waits e n ring puts =
        behind_waits e (ring_items ring ++ b.far)
        (IsPermutation-append_left b.far (e ∷ ring_items b.ring) (ring_items ring) (put_in_ring b.ring ring n e puts))

    -- to the far ones
    pub far_waits : (e : T) (least : ℕ) → IsPermutation (e ∷ all_of b) (all_of (with_far b (b.far ++ e ∷ []) least))
    far_waits e least =
        let items = ring_items b.ring in
        behind_waits e (items ++ (b.far ++ e ∷ []))
        (subst (λ l. IsPermutation (e ∷ (items ++ b.far)) l) (append_assoc items b.far (e ∷ []))
        (IsPermutation-append_comm (e ∷ []) (items ++ b.far)))

    with_opened_is : (run heap : List T) → IsSorted cmp run → IsHeap cmp heap → All (λ e. number e ≤ b.current) (run ++ heap)
        → AreBuckets cmp number (with_opened b run heap)
    with_opened_is run heap sorted is_heap early = record {
      narrow = is.narrow;
      sorted = sorted;
      heap = is_heap;
      opened = early;
      ring = is.ring;
      behind = is.behind;
      far = is.far;
    }

    pub heap_put : (e : T) (heap : List T) → number e ≤ b.current → IsPermutation (e ∷ b.heap) heap → IsHeap cmp heap → AreBuckets cmp number (with_heap b heap)
    heap_put e heap early moves is_heap =
        let P : T → Type 0 = λ x. number x ≤ b.current in
        record {
          narrow = is.narrow;
          sorted = is.sorted;
          heap = is_heap;
          opened = All-append P b.run heap (first_part P b.run b.heap is.opened)
              (All-permutation P (e ∷ b.heap) heap moves (All-cons P e b.heap early (second_part P b.run b.heap is.opened)));
          ring = is.ring;
          behind = is.behind;
          far = is.far;
        }

    pub ring_put : (e : T) (n : ℕ) (ring : List (ℕ × List T)) → n ≡ number e → b.current < n → n < reach_from b.current (length b.ring)
        → Puts b.ring n e ring → AreBuckets cmp number (with_ring b ring)
    ring_put e n ring same later near puts = record {
      narrow = is.narrow;
      sorted = is.sorted;
      heap = is.heap;
      opened = is.opened;
      ring = subst (λ size. EachFits (Behind number b.current size) ring) (sym (put_long b.ring ring n e puts))
          (fits_put (Behind number b.current (length b.ring)) b.ring ring n e puts is.ring (record { is = sym same; later = later; near = near }));
      behind = is.behind;
      far = is.far;
    }

    far_weaker : (least : ℕ) → b.current < least → least ≤ b.far_least → All (FarBehind number b.current least) b.far
    far_weaker least later less = All-weaker (FarBehind number b.current b.far_least) (FarBehind number b.current least)
        (λ x old. record { later = later; least = omega (arith, old.least, less) }) b.far is.far

    far_later : 0 < length b.far → b.current < b.far_least
    far_later some = later b.far is.far some where
      later : (xs : List T) → All (FarBehind number b.current b.far_least) xs → 0 < length xs → b.current < b.far_least
      later [] all has = absurd (omega arith)
      later (x ∷ xs) all has = (each_in (FarBehind number b.current b.far_least) (x ∷ xs) all x (in_first x xs)).later

    -- what is opened loses its greatest element
    pub opened_less : (x : T) (run heap : List T) → IsSorted cmp run → IsHeap cmp heap → IsPermutation (opened b) (x ∷ (run ++ heap))
        → (number x ≤ b.current) × AreBuckets cmp number (with_opened b run heap)
    opened_less x run heap sorted is_heap moves =
        let P : T → Type 0 = λ e. number e ≤ b.current in
        let all = All-permutation P (opened b) (x ∷ (run ++ heap)) moves is.opened in
        (All-head P x (run ++ heap) all, with_opened_is run heap sorted is_heap (All-tail P x (run ++ heap) all))

    pub opened_none : (run heap : List T) → IsSorted cmp run → IsHeap cmp heap → run ++ heap ≡ [] → AreBuckets cmp number (with_opened b run heap)
    opened_none run heap sorted is_heap none =
        with_opened_is run heap sorted is_heap (subst (All (λ e. number e ≤ b.current)) (sym none) (All-nil (λ e. number e ≤ b.current)))

    pub unopened_later : All (λ e. b.current < number e) (unopened b)
    unopened_later =
        All-append (λ e. b.current < number e) (ring_items b.ring) b.far
        (fits_items (Behind number b.current (length b.ring)) (λ e. b.current < number e) (λ m e behind. omega (arith, behind.is, behind.later)) b.ring is.ring)
        (All-weaker (FarBehind number b.current b.far_least) (λ e. b.current < number e) (λ e behind. omega (arith, behind.later, behind.least)) b.far is.far)

    pub bucket_later : (m : ℕ) → HasBucket b.ring m → (b.current < m) × (m < reach_from b.current (length b.ring))
    bucket_later m there = subst (λ n. (b.current < n) × (n < reach_from b.current (length b.ring))) there.number
        (of_some (bucket_at b.ring there.place).0 (bucket_at b.ring there.place).1 (is.ring there.place there.within) there.some) where
          of_some : (n : ℕ) (xs : List T) → All (Behind number b.current (length b.ring) n) xs → ¬ (xs ≡ [])
              → (b.current < n) × (n < reach_from b.current (length b.ring))
          of_some n [] all some = absurd (some refl)
          of_some n (x ∷ xs) all some =
              let head = each_in (Behind number b.current (length b.ring) n) (x ∷ xs) all x (in_first x xs) in
              (head.later, head.near)

    pub far_put : (e : T) (n : ℕ) → n ≡ number e → b.current < n → n < 2 ^ 64 → AreBuckets cmp number (with_far b (b.far ++ e ∷ []) (min b.far_least n))
    far_put e n same later narrow =
        let least : ℕ = min b.far_least n in
        let above : b.current < least = elim is.behind [ inl before ↦ omega arith | inr last ↦ omega arith ] in
        record {
          narrow = is.narrow;
          sorted = is.sorted;
          heap = is.heap;
          opened = is.opened;
          ring = is.ring;
          behind = inl above;
          far = All-push (FarBehind number b.current least) b.far e (far_weaker least above (omega arith))
              (record { later = above; least = omega (arith, same) });
        }

    -- the next one lies in the ring, where there are no far ones
    pub next_in_ring : (n : ℕ) → b.far ≡ [] → HasBucket b.ring n → ((m : ℕ) → b.current ≤ m → m < n → ¬ HasBucket b.ring m) → IsNext number b n
    next_in_ring n none there least = record {
      later = (bucket_later n there).0;
      ring = λ m has. elim (cases_lt m n) [ inl before ↦ absurd (least m (omega (arith, (bucket_later m has).0)) before has) | inr not ↦ not ];
      far = subst (All (λ e. n ≤ number e)) (sym none) (All-nil (λ e. n ≤ number e));
    }

    -- in the ring or among the far ones
    pub next_of_both : (n : ℕ) → 0 < length b.far → HasBucket b.ring n → ((m : ℕ) → b.current ≤ m → m < n → ¬ HasBucket b.ring m)
        → IsNext number b (min n b.far_least)
    next_of_both n some there least = record {
      later = omega (arith, (bucket_later n there).0, far_later some);
      ring = λ m has. elim (cases_lt m n) [
        | inl before ↦ absurd (least m (omega (arith, (bucket_later m has).0)) before has)
        | inr not ↦ omega (arith, not)
      ];
      far = All-weaker (FarBehind number b.current b.far_least) (λ e. min n b.far_least ≤ number e) (λ e behind. omega (arith, behind.least)) b.far is.far;
    }

    -- among the far ones, where the ring is empty
    pub next_far : 0 < length b.far → ((m : ℕ) → b.current ≤ m → m < reach_from b.current (length b.ring) → ¬ HasBucket b.ring m) → IsNext number b b.far_least
    next_far some none = record {
      later = far_later some;
      ring = λ m has. let (later, near) = bucket_later m has in absurd (none m (omega (arith, later)) near has);
      far = All-weaker (FarBehind number b.current b.far_least) (λ e. b.far_least ≤ number e) (λ e behind. behind.least) b.far is.far;
    }

    none_unopened : b.far ≡ [] → ((m : ℕ) → b.current ≤ m → m < reach_from b.current (length b.ring) → ¬ HasBucket b.ring m) → unopened b ≡ []
    none_unopened no_far none =
        ap (λ l. l ++ b.far) (no_items b.ring (λ m has. let (later, near) = bucket_later m has in none m (omega (arith, later)) near has)) ∙ no_far

    -- as what the ring tells says
    pub next_if_any : b.far ≡ [] → (r : Option ℕ) → IfSome r (HasBucket b.ring) → IfSome r (λ n. (m : ℕ) → b.current ≤ m → m < n → ¬ HasBucket b.ring m)
        → IfSome r (IsNext number b)
    next_if_any no_far None there least = tt
    next_if_any no_far (Some n) there least = next_in_ring n no_far there least

    pub none_if_none : b.far ≡ [] → (r : Option ℕ) → IfNone r ((m : ℕ) → b.current ≤ m → m < reach_from b.current (length b.ring) → ¬ HasBucket b.ring m)
        → IfNone r (unopened b ≡ [])
    none_if_none no_far None none = none_unopened no_far none
    none_if_none no_far (Some n) none = tt

    -- what the ring held of the opened bucket is taken out
    module _ {n : ℕ} (next : IsNext number b n) {taken : List T} {ring : List (ℕ × List T)} (takes : TakesOut b.ring n taken ring) where
      had : (m : ℕ) → HasBucket ring m → HasBucket b.ring m
      had m there = elim (takes.others there.place) [
        | inl same ↦ record {
          place = there.place;
          within = omega (arith, there.within, takes.long);
          number = ap (λ c. c.0) (sym same) ∙ there.number;
          some = λ none. there.some (ap (λ c. c.1) same ∙ none);
        }
        | inr none ↦ absurd (there.some none)
      ]

      ring_behind : EachFits (Behind number n (length ring)) ring
      ring_behind =
          fits_more (Behind number b.current (length b.ring)) (Behind number n (length ring)) ring
          (λ m e there old. let later : n < m = elim (cases_lt n m) [
            | inl before ↦ before
            | inr not ↦ let same : m ≡ n = omega (arith, not, next.ring m (had m there)) in absurd (takes.gone (subst (HasBucket ring) same there))
          ] in record { is = old.is; later = later; near = omega (arith, old.near, takes.long, next.later) })
          (fits_after (Behind number b.current (length b.ring)) b.ring ring n taken takes is.ring)

      pub opens : (run far : List T) (least : ℕ) → All (Contains taken) run → IsSorted cmp run
          → (n < least) ⊎ (2 ^ 64 - 1 ≤ least) → All (FarBehind number n least) far
          → AreBuckets cmp number (record { shift = b.shift; current = n; run = run; heap = b.heap; ring = ring; far = far; far_least = least })
      opens run far least of_taken sorted behind all_far = record {
        narrow = is.narrow;
        sorted = sorted;
        heap = is.heap;
        opened = All-append (λ e. number e ≤ n) run b.heap
            (All-weaker (Contains taken) (λ e. number e ≤ n)
            (λ e there. let old = each_in (Behind number b.current (length b.ring) n) taken taken_fits e there in omega (arith, old.is)) run of_taken)
            (All-weaker (λ e. number e ≤ b.current) (λ e. number e ≤ n) (λ e early. omega (arith, early, next.later)) b.heap
            (second_part (λ e. number e ≤ b.current) b.run b.heap is.opened));
        ring = ring_behind;
        behind = behind;
        far = all_far;
      } where
        taken_fits : All (Behind number b.current (length b.ring) n) taken
        taken_fits = fits_taken (Behind number b.current (length b.ring)) b.ring ring n taken takes is.ring

      pub far_stays : n < b.far_least → All (FarBehind number n b.far_least) b.far
      far_stays before = All-weaker (FarBehind number b.current b.far_least) (FarBehind number n b.far_least)
          (λ e old. record { later = before; least = old.least }) b.far is.far

    -- what is taken out was among all
    pub taken_keeps : (P : T → Type 0) {n : ℕ} {taken : List T} {ring : List (ℕ × List T)} → TakesOut b.ring n taken ring → All P (all_of b) → All P taken
    taken_keeps P {n} {taken} {ring} takes all =
        first_part P taken (ring_items ring)
        (All-permutation P (ring_items b.ring) (taken ++ ring_items ring) takes.moved (first_part P (ring_items b.ring) b.far (second_part P (opened b) (unopened b) all)))

    -- what is opened has lost only what is spent, together with what has to be put again
    module _ (f : T → Waiting) (Spent : Spot → Type 0) (none : opened b ≡ []) {n : ℕ} {taken : List T} {ring : List (ℕ × List T)} (takes : TakesOut b.ring n taken ring)
        (kept run far reached : List T) (loses : LosesSpent Spent (map f taken) (map f kept)) (sorts : IsPermutation kept run) (parts : IsPermutation b.far (reached ++ far)) where
      abbrev pub items : List T
      items = ring_items ring

      abbrev pub rest : List T
      rest = items ++ b.far

      abbrev pub others : List T
      others = (run ++ b.heap) ++ (items ++ far)

      abbrev pub now : List T
      now = reached ++ others

      before : IsPermutation (all_of b) (taken ++ rest)
      before =
          subst (λ l. IsPermutation (l ++ unopened b) (taken ++ rest)) (sym none)
          (subst (λ l. IsPermutation (unopened b) l) (append_assoc taken items b.far)
          (IsPermutation-append_left b.far (ring_items b.ring) (taken ++ items) takes.moved))

      after : IsPermutation (kept ++ rest) now
      after =
          let heap : b.heap ≡ [] = none_second b.run b.heap none in
          let whole = run ++ items in
          let sorted = IsPermutation-append kept run rest (items ++ (reached ++ far)) sorts (IsPermutation-append_right items b.far (reached ++ far) parts) in
          let same : run ++ (items ++ (reached ++ far)) ≡ (whole ++ reached) ++ far =
          sym (append_assoc run items (reached ++ far)) ∙ sym (append_assoc whole reached far) in
          let turned = IsPermutation-append_left far (whole ++ reached) (reached ++ whole) (IsPermutation-append_comm whole reached) in
          let last : (reached ++ whole) ++ far ≡ now =
          append_assoc reached whole far ∙ ap (λ l. reached ++ l) (append_assoc run items far ∙ ap (λ l. l ++ (items ++ far)) (sym (ap (λ l. run ++ l) heap ∙ append-nil run))) in
          IsPermutation-trans (kept ++ rest) (run ++ (items ++ (reached ++ far))) now sorted
          (subst (λ l. IsPermutation l now) (sym same) (subst (λ l. IsPermutation ((whole ++ reached) ++ far) l) last turned))

      pub opens_loses : LosesSpent Spent (map f (all_of b)) (map f now)
      opens_loses =
          let middle : LosesSpent Spent (map f (taken ++ rest)) (map f (kept ++ rest)) =
          subst (λ l. LosesSpent Spent l (map f (kept ++ rest))) (sym (map-append f taken rest))
          (subst (λ l. LosesSpent Spent (map f taken ++ map f rest) l) (sym (map-append f kept rest))
          (loses_beside Spent (map f taken) (map f kept) (map f rest) loses)) in
          loses_twice Spent (map f (all_of b)) (map f (taken ++ rest)) (map f now)
          (loses_order Spent (map f (all_of b)) (map f (taken ++ rest)) (IsPermutation-map f (all_of b) (taken ++ rest) before))
          (loses_twice Spent (map f (taken ++ rest)) (map f (kept ++ rest)) (map f now) middle
          (loses_order Spent (map f (kept ++ rest)) (map f now) (IsPermutation-map f (kept ++ rest) now after)))

  -- the last of what has to be put again comes in
  pub put_more : (all entries rest now after : List T) (e : T) → entries ≡ rest ++ e ∷ [] → IsPermutation all (entries ++ now) → IsPermutation (e ∷ now) after
      → IsPermutation all (rest ++ after)
  put_more all entries rest now after e last moves comes =
      IsPermutation-trans all (entries ++ now) (rest ++ after) moves
      (subst (λ l. IsPermutation l (rest ++ after)) (sym (ap (λ l. l ++ now) last ∙ append_assoc rest (e ∷ []) now))
      (IsPermutation-append_right rest (e ∷ now) after comes))
