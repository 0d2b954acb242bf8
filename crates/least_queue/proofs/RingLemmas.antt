-- Buckets in a ring.
use Rattle.std.proofs.Common.{◌≡◌, ◌≢◌, ℕ, zero, suc, ◌<◌, ◌⊎◌, inl, inr, List, [], ◌∷◌, ◌++◌, length, get_or, set, replicate, IsPermutation, All, sym, ap, subst, refl, ◌∙◌, arith, get_or-set_same, get_or-set_other}
use Rattle.std.proofs.lemmas.Bool.{cases_eq}
use Rattle.std.proofs.lemmas.List.{append_assoc, get_or-replicate, get_or_default, length-replicate, length-set, set-get_or, set-set}
use Rattle.std.proofs.lemmas.List.Elements.{All-append, All-nil, All-push, All-weaker}
use Rattle.std.proofs.lemmas.List.Sorted.{IsPermutation-append_comm, IsPermutation-append_left, IsPermutation-append_right, IsPermutation-cons, IsPermutation-middle, IsPermutation-refl, IsPermutation-sym, IsPermutation-trans}
use Rattle.least_queue.specs.Rings.{EachFits, HasBucket, IsRing, Puts, TakesOut, bucket_at, place_in, ring_items}

module _ {T : Type 0} where
  -- all buckets are empty
  pub empty_ring : (size : ℕ) → 0 < size → IsRing (replicate {A = ℕ × List T} size (0, []))
  empty_ring size some = record {
    some = omega (arith, some, length-replicate {A = ℕ × List T} size (0, []));
    placed = λ k within has. absurd (has (ap (λ b. b.1) (get_or-replicate {A = ℕ × List T} size k (0, []) (0, [])
        (omega (arith, within, length-replicate {A = ℕ × List T} size (0, []))))));
  }

  pub empty_items : (size : ℕ) → ring_items (replicate {A = ℕ × List T} size (0, [])) ≡ []
  empty_items zero = refl
  empty_items (suc size) = empty_items size

  pub empty_fits : (Q : ℕ → T → Type 0) (size : ℕ) → EachFits Q (replicate {A = ℕ × List T} size (0, []))
  empty_fits Q size k within =
      let none = get_or-replicate {A = ℕ × List T} size k (0, []) (0, []) (omega (arith, within, length-replicate {A = ℕ × List T} size (0, []))) in
      subst (λ b. All (Q b.0) b.1) (sym none) (All-nil (Q 0))

  -- the items at a place, and all others
  pub set_apart : (ring : List (ℕ × List T)) (k n : ℕ) → k < length ring
      → IsPermutation (ring_items ring) ((bucket_at ring k).1 ++ ring_items (set ring k (n, [])))
  set_apart [] k n within = absurd (omega arith)
  set_apart (b ∷ bs) zero n within = IsPermutation-refl (b.1 ++ ring_items bs)
  set_apart (b ∷ bs) (suc k) n within =
      let xs = (bucket_at bs k).1 in
      let others = ring_items (set bs k (n, [])) in
      let apart = IsPermutation-append_right b.1 (ring_items bs) (xs ++ others) (set_apart bs k n (omega arith)) in
      let turned = IsPermutation-append_left others (b.1 ++ xs) (xs ++ b.1) (IsPermutation-append_comm b.1 xs) in
      IsPermutation-trans (b.1 ++ ring_items bs) (b.1 ++ (xs ++ others)) (xs ++ (b.1 ++ others)) apart
      (subst (λ l. IsPermutation l (xs ++ (b.1 ++ others))) (append_assoc b.1 xs others)
      (subst (λ l. IsPermutation ((b.1 ++ xs) ++ others) l) (append_assoc xs b.1 others) turned))

  pub put_in_ring : (ring after : List (ℕ × List T)) (n : ℕ) (item : T) → Puts ring n item after → IsPermutation (item ∷ ring_items ring) (ring_items after)
  put_in_ring ring after n item puts =
      let k = puts.place in
      let xs = (bucket_at ring k).1 in
      let with_item = set ring k (n, xs ++ item ∷ []) in
      let others = ring_items (set ring k (n, [])) in
      let before = IsPermutation-cons item (ring_items ring) (xs ++ others) (set_apart ring k n puts.within) in
      let middle = IsPermutation-sym (xs ++ item ∷ others) (item ∷ (xs ++ others)) (IsPermutation-middle xs item others) in
      let here : bucket_at with_item k ≡ (n, xs ++ item ∷ []) = get_or-set_same ring k (n, xs ++ item ∷ []) (0, []) puts.within in
      let rest : ring_items (set with_item k (n, [])) ≡ others = ap ring_items (set-set ring k (n, xs ++ item ∷ []) (n, [])) in
      let now = set_apart with_item k n (omega (arith, puts.within, length-set ring k (n, xs ++ item ∷ []))) in
      let now_is : IsPermutation (ring_items with_item) (xs ++ item ∷ others) =
      subst (λ l. IsPermutation (ring_items with_item) l) (append_assoc xs (item ∷ []) others)
      (subst (λ b. IsPermutation (ring_items with_item) (b.1 ++ others)) here
      (subst (λ l. IsPermutation (ring_items with_item) ((bucket_at with_item k).1 ++ l)) rest now)) in
      subst (λ l. IsPermutation (item ∷ ring_items ring) (ring_items l)) (sym puts.is)
      (IsPermutation-trans (item ∷ ring_items ring) (item ∷ (xs ++ others)) (ring_items with_item) before
      (IsPermutation-trans (item ∷ (xs ++ others)) (xs ++ item ∷ others) (ring_items with_item) middle
      (IsPermutation-sym (ring_items with_item) (xs ++ item ∷ others) now_is)))

  pub put_long : (ring after : List (ℕ × List T)) (n : ℕ) (item : T) → Puts ring n item after → length after ≡ length ring
  put_long ring after n item puts = ap length puts.is ∙ length-set ring puts.place _

  module _ (Q : ℕ → T → Type 0) where
    pub fits_put : (ring after : List (ℕ × List T)) (n : ℕ) (item : T) → Puts ring n item after → EachFits Q ring → Q n item → EachFits Q after
    fits_put ring after n item puts fits here = subst (EachFits Q) (sym puts.is) each where
      xs : List T
      xs = (bucket_at ring puts.place).1

      old : (bucket_at ring puts.place).1 ≡ [] ⊎ ((bucket_at ring puts.place).0 ≡ n) → All (Q n) (bucket_at ring puts.place).1
      old (inl none) = subst (All (Q n)) (sym none) (All-nil (Q n))
      old (inr same) = subst (λ m. All (Q m) (bucket_at ring puts.place).1) same (fits puts.place puts.within)

      each : EachFits Q (set ring puts.place (n, xs ++ item ∷ []))
      each k within = elim (cases_eq k puts.place) [
        | inl same ↦ subst (λ j. All (Q (bucket_at (set ring puts.place (n, xs ++ item ∷ [])) j).0) (bucket_at (set ring puts.place (n, xs ++ item ∷ [])) j).1) (sym same)
            (subst (λ b. All (Q b.0) b.1) (sym (get_or-set_same ring puts.place (n, xs ++ item ∷ []) (0, []) puts.within)) (All-push (Q n) xs item (old puts.free) here))
        | inr other ↦ subst (λ b. All (Q b.0) b.1) (sym (get_or-set_other ring puts.place k (n, xs ++ item ∷ []) (0, []) other))
            (fits k (omega (arith, within, length-set ring puts.place (n, xs ++ item ∷ []))))
      ]

    pub fits_after : (ring after : List (ℕ × List T)) (n : ℕ) (items : List T) → TakesOut ring n items after → EachFits Q ring → EachFits Q after
    fits_after ring after n items takes fits k within = elim (takes.others k) [
      | inl same ↦ subst (λ b. All (Q b.0) b.1) (sym same) (fits k (omega (arith, within, takes.long)))
      | inr none ↦ subst (All (Q (bucket_at after k).0)) (sym none) (All-nil (Q (bucket_at after k).0))
    ]

    pub fits_taken : (ring after : List (ℕ × List T)) (n : ℕ) (items : List T) → TakesOut ring n items after → EachFits Q ring → All (Q n) items
    fits_taken ring after n items takes fits = elim takes.from [
      | inl none ↦ subst (All (Q n)) (sym none) (All-nil (Q n))
      | inr from ↦ let (k, within, number, is) = from in
          subst (λ m. All (Q m) items) number (subst (All (Q (bucket_at ring k).0)) (sym is) (fits k within))
    ]

    pub fits_items : (P : T → Type 0) → ((m : ℕ) (e : T) → Q m e → P e) → (ring : List (ℕ × List T)) → EachFits Q ring → All P (ring_items ring)
    fits_items P is [] fits = All-nil P
    fits_items P is (b ∷ bs) fits =
        All-append P b.1 (ring_items bs) (All-weaker (Q b.0) P (is b.0) b.1 (fits 0 (omega arith)))
        (fits_items P is bs (λ k within. fits (suc k) (omega arith)))

  all_if_some : (P : T → Type 0) (xs : List T) → (xs ≢ [] → All P xs) → All P xs
  all_if_some P [] all = All-nil P
  all_if_some P (x ∷ xs) all = all (λ none. absurd (omega (arith, ap length none)))

  -- what holds of each bucket that has items may be told of its items
  pub fits_more : (Q R : ℕ → T → Type 0) (ring : List (ℕ × List T)) → ((m : ℕ) (e : T) → HasBucket ring m → Q m e → R m e) → EachFits Q ring → EachFits R ring
  fits_more Q R ring more fits k within =
      all_if_some (R (bucket_at ring k).0) (bucket_at ring k).1
      (λ some. All-weaker (Q (bucket_at ring k).0) (R (bucket_at ring k).0)
      (λ e. more (bucket_at ring k).0 e (record { place = k; within = within; number = refl; some = some })) (bucket_at ring k).1 (fits k within))

  no_items_by_place : (ring : List (ℕ × List T)) → ((k : ℕ) → k < length ring → (bucket_at ring k).1 ≡ []) → ring_items ring ≡ []
  no_items_by_place [] none = refl
  no_items_by_place (b ∷ bs) none =
      ap (λ xs. xs ++ ring_items bs) (none 0 (omega arith)) ∙ no_items_by_place bs (λ k within. none (suc k) (omega arith))

  none_if_not : (xs : List T) → ¬ (xs ≢ []) → xs ≡ []
  none_if_not [] not = refl
  none_if_not (x ∷ xs) not = absurd (not (λ none. absurd (omega (arith, ap length none))))

  pub no_items : (ring : List (ℕ × List T)) → ((n : ℕ) → ¬ HasBucket ring n) → ring_items ring ≡ []
  no_items ring none = no_items_by_place ring
      (λ k within. none_if_not (bucket_at ring k).1
      (λ some. none (bucket_at ring k).0 (record { place = k; within = within; number = refl; some = some })))

  module _ (ring : List (ℕ × List T)) (is_ring : IsRing ring) (n k : ℕ) (within : k < length ring) (placed : k ≡ place_in (length ring) n) where
    -- a bucket of this number has items only at its place
    at_place : (there : HasBucket ring n) → there.place ≡ k
    at_place there =
        sym (is_ring.placed there.place there.within there.some) ∙ ap (place_in (length ring)) there.number ∙ sym placed

    pub takes_none : ¬ (((bucket_at ring k).0 ≡ n) × (0 < length (bucket_at ring k).1)) → TakesOut ring n [] ring
    takes_none not = record {
      long = refl;
      moved = IsPermutation-refl (ring_items ring);
      gone = λ there. not (
        ap (λ j. (bucket_at ring j).0) (sym (at_place there)) ∙ there.number,
        some (bucket_at ring k).1
            (λ none. there.some (ap (λ j. (bucket_at ring j).1) (at_place there) ∙ none)),
      );
      others = λ j. inl refl;
      from = inl refl;
    } where
      some : (xs : List T) → xs ≢ [] → 0 < length xs
      some [] has = absurd (has refl)
      some (x ∷ xs) has = omega arith

    pub takes_some : (bucket_at ring k).0 ≡ n → TakesOut ring n (bucket_at ring k).1 (set ring k ((bucket_at ring k).0, []))
    takes_some same = record {
      long = length-set ring k ((bucket_at ring k).0, []);
      moved = set_apart ring k (bucket_at ring k).0 within;
      gone = gone;
      others = others;
      from = inr (k, within, same, refl);
    } where
      after : List (ℕ × List T)
      after = set ring k ((bucket_at ring k).0, [])

      emptied : bucket_at after k ≡ ((bucket_at ring k).0, [])
      emptied = get_or-set_same ring k ((bucket_at ring k).0, []) (0, []) within

      others : (j : ℕ) → (bucket_at after j ≡ bucket_at ring j) ⊎ ((bucket_at after j).1 ≡ [])
      others j = elim (cases_eq j k) [
        | inl here ↦ inr (ap (λ i. (bucket_at after i).1) here ∙ ap (λ b. b.1) emptied)
        | inr other ↦ inl (get_or-set_other ring k j ((bucket_at ring k).0, []) (0, []) other)
      ]

      gone : ¬ HasBucket after n
      gone there = elim (others there.place) [
        | inl was ↦ let before : HasBucket ring n = record {
          place = there.place;
          within = omega (arith, there.within, length-set ring k ((bucket_at ring k).0, []));
          number = ap (λ b. b.0) (sym was) ∙ there.number;
          some = λ none. there.some (ap (λ b. b.1) was ∙ none);
        } in there.some (ap (λ i. (bucket_at after i).1) (at_place before) ∙ ap (λ b. b.1) emptied)
        | inr none ↦ there.some none
      ]

    -- the bucket that was read at that place gives its items for none
    pub swapped : (b c : ℕ × List T) (items : List T) → b ≡ get_or ring k b → b.0 ≡ n → items ≡ b.1 → c ≡ (b.0, []) → TakesOut ring n items (set ring k c)
    swapped b c items read same items_are emptied =
        let at : bucket_at ring k ≡ b = get_or_default ring k (0, []) b within ∙ sym read in
        subst (λ d. TakesOut ring n items (set ring k d)) (sym emptied)
        (subst (λ xs. TakesOut ring n xs (set ring k (b.0, []))) (sym items_are)
        (subst (λ d. TakesOut ring n d.1 (set ring k (d.0, []))) at (takes_some (ap (λ d. d.0) at ∙ same))))

    -- the bucket that was read at that place stays
    pub unswapped : (b : ℕ × List T) (items : List T) → b ≡ get_or ring k b → ¬ ((b.0 ≡ n) × (0 < length b.1)) → items ≡ [] → TakesOut ring n items (set ring k b)
    unswapped b items read not none =
        let at : bucket_at ring k ≡ b = get_or_default ring k (0, []) b within ∙ sym read in
        let stays : set ring k b ≡ ring = ap (set ring k) read ∙ set-get_or ring k b in
        subst (λ r. TakesOut ring n items r) (sym stays)
        (subst (λ xs. TakesOut ring n xs ring) (sym none)
        (takes_none (subst (λ d. ¬ ((d.0 ≡ n) × (0 < length d.1))) (sym at) not)))
