-- A queue cut into ranges, and what the passes over them take together.
use Rattle.std.proofs.Common.{◌≡◌, ◌≢◌, ℕ, ◌+◌, ◌<◌, ◌⊎◌, ◌↔◌, List, [], ◌∷◌, ◌++◌, append_assoc, zero-add, take, drop, length, get_or}
use Rattle.std.proofs.Common.{inl, inr, refl, arith, Option, Some, None, Less, Equal, Greater, Bor}
use Rattle.std.specs.Prelude.{All, AllPairs, Contains, IfSome, IsTrue, slice_get}
use Rattle.std.proofs.lemmas.List.{drop_more}
use Rattle.std.proofs.lemmas.List.Elements.{All-cons, All-nil, Contains-get_or}
use Rattle.std.proofs.lemmas.Option.{gets, slice_get-get_or, slice_get_cases}
use Rattle.list_laws.specs.Sets.{SameMembers}
use Rattle.list_laws.proofs.Members.{all_from_in, in_none}
use Rattle.list_laws.proofs.OnceLaws.{in_append, in_cons}
use Rattle.list_laws.proofs.Pairs.{pairs_cons, pairs_take}
use Rattle.waiting_item.specs.declared.item.Item.{Item}
use Rattle.waiting_queue.specs.declared.joining.Part.{Part}
use Rattle.waiting_queue.specs.declared.ranges.Range.{Range}
use Rattle.waiting_queue.specs.Joining.{AreJoined, IsPart, rest_of, taken_of}
use Rattle.waiting_queue.specs.Filling.{AreFilled}
use Rattle.waiting_queue.specs.Ranges.{ArePassed, AreRanges, GivesPart, IsOf, IsRange, LiesBefore, LiesIn, ListsWithin, PassesRange}
use Rattle.waiting_queue.specs.Taking.{AreSorted, TakesOpenSpots}
use Rattle.waiting_item.specs.Waiting.{Spot, SpotLess, spot_cmp, spot_in}
use Rattle.waiting_queue.proofs.JoiningLemmas.{in_flat, in_pushed, in_read, of_flat, pairs_flat}
use Rattle.waiting_queue.proofs.OrderLemmas.{SpotLess-irrefl, SpotLess-trans, less_unless}
use Rattle.waiting_queue.proofs.PassingLemmas.{first_of}
use Rattle.waiting_queue.proofs.ShadowLemmas.{in_parts, pairs_drop, pairs_parts}
use Rattle.waiting_queue.proofs.TakingLemmas.{parts_take}

module _ {C : Type 0} (components : C → List ℕ) where
  abbrev spot : Item C → Spot
  spot = spot_in components

  abbrev NotAfter : Item C → Item C → Type 0
  NotAfter a b = ¬ SpotLess (spot b) (spot a)

  -- ---- how the sorted list is cut

  -- an item doesn't come before this one, if there is one
  abbrev pub IsFrom : Option (Bor (Item C)) → Item C → Type 0
  IsFrom from x = IfSome from (λ f. ¬ SpotLess (spot x) (spot f.now))

  -- ranges of which just these items are, and the others from one on
  pub record AreRangesFrom (from : Option (Bor (Item C))) (left others : List (Item C)) (ranges : List (Range C)) : Type 0 where
    pub each : All (IsRange components) ranges
    pub ascending : AllPairs (LiesBefore components others) ranges
    pub has : (x : Item C) → (Contains left x ⊎ (Contains others x × IsFrom from x)) ↔ ((r : Range C) × Contains ranges r × IsOf components others r x)

  -- Ranges were cut off: with any into which what is left is cut, they are ranges of all.
  pub record IsCutting (all : List (Item C)) (ranges : List (Range C)) (left : List (Item C)) (from : Option (Bor (Item C))) : Type 0 where
    pub sorted : AreSorted spot left
    pub behind : (x : Item C) → Contains left x → IsFrom from x
    pub goes_on : (others : List (Item C)) (more : List (Range C)) → AreRangesFrom from left others more → AreRanges components all others (ranges ++ more)

  -- none was cut off
  pub cutting_none : (all : List (Item C)) → AreSorted spot all → IsCutting all [] all None
  cutting_none all sorted = record {
    sorted = sorted;
    behind = λ x h. tt;
    goes_on = λ others more are. record { each = are.each; ascending = are.ascending; has = λ x. let has = are.has x in grind arith };
  }

  -- what is of a range, or of a later one
  some_of : (r : Range C) (more : List (Range C)) (others : List (Item C)) (x : Item C)
      → ((s : Range C) × Contains (r ∷ more) s × IsOf components others s x)
      ↔ (IsOf components others r x ⊎ ((s : Range C) × Contains more s × IsOf components others s x))
  some_of r more others x = (
    λ (s, there, i). let cases = in_cons r more s in grind arith,
    λ h. elim h [ inl here ↦ (r, (in_cons r more r).1 (inl refl), here) | inr (s, later, i) ↦ (s, (in_cons r more s).1 (inr later), i) ],
  )

  -- what isn't less than s comes after what isn't more than s
  not_after_by : (x y s : Item C) → NotAfter x s → NotAfter s y → NotAfter x y
  not_after_by x y s low high less = high (less_unless (spot y) (spot s) (spot x) less low)

  -- one comes before another, or not
  less_or_not : (a b : Spot) → SpotLess a b ⊎ (¬ SpotLess a b)
  less_or_not a b = elim (spot_cmp a b) as (λ o. (o ≡ Less) ⊎ (o ≢ Less)) [ Less ↦ inl refl | Equal ↦ inr (λ e. absurd cc) | Greater ↦ inr (λ e. absurd cc) ]

  -- one range more is cut off, before the first of those that are left
  module _ {all : List (Item C)} {ranges : List (Range C)} {left : List (Item C)} {from : Option (Bor (Item C))} (is : IsCutting all ranges left from)
      (k : ℕ) (u : Bor (Item C)) (first : slice_get (drop k left) 0 ≡ Some u.now) (front : Bor (List (Item C))) (items_are : front.now ≡ take k left) where
    abbrev r : Range C
    r = record { items = front; from = from; until = Some u }

    u_in : Contains (drop k left) u.now
    u_in = (0, grind (arith, gets), grind (arith, gets))

    later_behind : (x : Item C) → Contains (drop k left) x → NotAfter u.now x
    later_behind = first_of components (drop k left) u.now (drop 1 (drop k left)) (grind (arith, gets, drop_more)) (pairs_drop NotAfter k left is.sorted)

    -- u doesn't come before where the range begins
    from_u : (x : Item C) → IsFrom (Some u) x → IsFrom from x
    from_u x behind = let at_u = is.behind u.now ((in_parts left k u.now).1 (inr u_in)) in grind (arith, not_after_by)

    -- all of the range comes before u or is in front of it, and all later is behind
    front_before : (others : List (Item C)) (x : Item C) → IsOf components others r x → NotAfter x u.now
    front_before others x h =
        let in_front = pairs_parts NotAfter k left x u.now is.sorted in
        grind (arith, items_are, u_in, SpotLess-irrefl (spot x), SpotLess-trans (spot x) (spot u.now) (spot x))

    regrouped : {Left Front Back O F L Less More Some : Type 0} → Left ↔ (Front ⊎ Back) → L ↔ (F × Less) → (Back ⊎ (O × ¬ Less)) ↔ More
        → Less ⊎ (¬ Less) → (¬ Less → F) → Some ↔ ((Front ⊎ (O × L)) ⊎ More) → (Left ⊎ (O × F)) ↔ Some
    regrouped left lies more either from some = grind arith

    pub cutting_more : IsCutting all (ranges ++ r ∷ []) (drop k left) (Some u)
    cutting_more = record {
      sorted = pairs_drop NotAfter k left is.sorted;
      behind = later_behind;
      goes_on = λ others more are. rw append_assoc (is.goes_on others (r ∷ more) (record {
        each = All-cons (IsRange components) r more (rw items_are (pairs_take NotAfter k left is.sorted)) are.each;
        ascending = pairs_cons (LiesBefore components others) r more (λ s there x y h i. not_after_by x y u.now (front_before others x h)
            (let has = (are.has y).1 (s, there, i) in let later = later_behind y in grind arith)) are.ascending;
        has = λ x. regrouped (rw items_are (in_parts left k x)) (λ lies. (lies.from, lies.until), λ h. record { from = h.0; until = h.1 }) (are.has x)
            (less_or_not (spot x) (spot u.now)) (from_u x) (some_of r more others x);
      }));
    }

  -- what is left is the last range
  pub cutting_all : {all : List (Item C)} {ranges : List (Range C)} (left : Bor (List (Item C))) {from : Option (Bor (Item C))}
      → IsCutting all ranges left.now from
      → (others : List (Item C)) → AreRanges components all others (ranges ++ (record { items = left; from = from; until = None }) ∷ [])
  cutting_all left {from} is others =
      let r : Range C = record { items = left; from = from; until = None } in
      is.goes_on others (r ∷ []) (record {
        each = All-cons (IsRange components) r [] is.sorted (All-nil (IsRange components));
        ascending = λ i j d before within. absurd (omega (arith, before, within));
        has = λ x. let some = some_of r [] others x in grind (arith, in_none);
      })

  -- ---- what comes in and lies in a range

  module _ (r : Range C) (items old new : List (Item C)) (i : ℕ) (x : Item C) (within : i < length items) (at : x ≡ get_or items i x)
      (listed : ListsWithin components r (take i items) old new) where
    joined : {New New2 Old I I2 E L : Type 0} → New ↔ (Old ⊎ (I × L)) → I2 ↔ (I ⊎ E) → New2 ↔ (New ⊎ E) → (E → L) → New2 ↔ (Old ⊎ (I2 × L))
    joined was more new lies = grind arith

    passed_by : {New Old I I2 E L : Type 0} → New ↔ (Old ⊎ (I × L)) → I2 ↔ (I ⊎ E) → (E → ¬ L) → New ↔ (Old ⊎ (I2 × L))
    passed_by was more not = grind arith

    pub listed_next : (LiesIn components r x → ListsWithin components r (take (i + 1) items) old (new ++ x ∷ []))
        × ((¬ LiesIn components r x) → ListsWithin components r (take (i + 1) items) old new)
    listed_next = (
      λ lies y. joined (listed y) (in_read items i x y within at) (in_pushed new x y) (λ same. rw same lies),
      λ not y. passed_by (listed y) (in_read items i x y within at) (λ same. rw same not),
    )

  -- what is of a range, in order
  pub all_of_range : (r : Range C) (late fresh none half listed sorted : List (Item C)) → none ≡ [] → ListsWithin components r late none half
      → ListsWithin components r fresh half listed → SameMembers sorted listed
      → (x : Item C) → Contains (r.items.now ++ sorted) x ↔ IsOf components (late ++ fresh) r x
  all_of_range r late fresh none half listed sorted empty first second same x =
      regrouped (in_append r.items.now sorted x) (same x) (second x) (first x) (rw empty (in_none x)) (in_append late fresh x)
    where
      regrouped : {All Items Sorted Listed Half None Late Fresh Both L : Type 0} → All ↔ (Items ⊎ Sorted) → Sorted ↔ Listed → Listed ↔ (Half ⊎ (Fresh × L))
          → Half ↔ (None ⊎ (Late × L)) → ¬ None → Both ↔ (Late ⊎ Fresh) → All ↔ (Items ⊎ (Both × L))
      regrouped all same second first empty both = grind arith

  -- ---- what the passes take together

  -- all parts were filled, and memory sufficed
  module _ (Open : Spot → Type 0) {items others : List (Item C)} {rs : List (Range C)} {old ps after : List (Part C)}
      (are : AreRanges components items others rs) (long : length old ≡ length rs)
      (filled : AreFilled (λ k p. p.want ≡ None → GivesPart components Open others rs k p) 0 old ps)
      (same : after ≡ ps) (whole : All (λ p. p.want ≡ None) after) where
    abbrev Passes : Part C → Range C → Type 0
    Passes p r = PassesRange components Open others r p.taken.items p.rest.items p.shadow.items

    abbrev Met : Part C → Item C → Type 0
    Met p x = Contains p.taken.items x ⊎ Contains p.rest.items x

    -- any range
    nowhere : Range C
    nowhere = record { items = record { ref_ptr = (0, 0); now = [] }; from = None; until = None }

    -- a part is of the range at its place
    passes : (k : ℕ) (d : Part C) (e : Range C) → k < length ps → Passes (get_or ps k d) (get_or rs k e)
    passes k d e within = filled.each k (get_or ps k d) (slice_get-get_or ps k d within) ((rw same at whole) k d within) (get_or rs k e)
        (rw zero-add (slice_get-get_or rs k e (omega (arith, within, long, filled.count))))

    of_range : (r : Range C) → Contains rs r → (p : Part C) × Contains ps p × Passes p r
    of_range r (k, within, is) = elim (slice_get_cases ps k).1 [
      | inl (p, inside, got, at) ↦ (p, (k, inside, at), rw (at, is) at (passes k p r inside))
      | inr past ↦ absurd (omega (arith, past.0, within, long, filled.count))
    ]

    of_part : (p : Part C) → Contains ps p → (r : Range C) × Contains rs r × Passes p r
    of_part p (k, within, is) =
        (get_or rs k nowhere, Contains-get_or rs k nowhere (omega (arith, within, long, filled.count)), rw is at (passes k p nowhere within))

    -- what was met in a part is of its range, and so it was there
    met : (p : Part C) (r : Range C) (x : Item C) → Passes p r → Met p x → IsOf components others r x
    met p r x is h = (is.all x).0 (elim h [ inl took ↦ is.takes.among x took | inr stays ↦ (is.takes.stays x stays).0 ])

    came : (p : Part C) (x : Item C) → Contains ps p → Met p x → Contains (items ++ others) x
    came p x p_in h = let (r, r_in, is) = of_part p p_in in (in_append items others x).1 ((are.has x).1 (r, r_in, met p r x is h))

    -- nothing that was met in a later part comes before what was met in an earlier one
    ascend : (f : Part C → List (Item C)) → ((p : Part C) (x : Item C) → Contains (f p) x → Met p x)
        → AllPairs (λ p q. (x y : Item C) → Contains (f p) x → Contains (f q) y → NotAfter x y) ps
    ascend f has i j d before within x y h l = are.ascending i j nowhere before (omega (arith, within, long, filled.count)) x y
        (met (get_or ps i d) (get_or rs i nowhere) x (passes i d nowhere (omega (arith, before, within))) (has (get_or ps i d) x h))
        (met (get_or ps j d) (get_or rs j nowhere) y (passes j d nowhere within) (has (get_or ps j d) y l))

    pub are_passed : ArePassed components Open (items ++ others) after
    are_passed = rw same (record {
      are = record {
        each = all_from_in (IsPart components) ps (λ p h. let (r, r_in, is) = of_part p h in record {
          ascending = is.takes.ascending;
          apart = λ x y i j. ((is.takes.taken (spot y)).0 (y, j, refl)).2 x (is.takes.among x i) ((is.takes.taken (spot x)).0 (x, i, refl)).1;
          shadow = is.shadow;
          descends = is.descends;
        });
        ascending = ascend (λ p. p.taken.items) (λ p x h. inl h);
      };
      apart = record {
        held = λ x h.
            let (p, p_in, here) = of_flat (λ (p : Part C). p.taken.items) ps x h in
            let (r, r_in, is) = of_part p p_in in (came p x p_in (inl here), ((is.takes.taken (spot x)).0 (x, here, refl)).1);
        stays = λ x h.
            let (p, p_in, here) = of_flat (λ (p : Part C). p.rest.items) ps x h in
            let (r, r_in, is) = of_part p p_in in
            let (y, y_in, by) = (is.takes.stays x here).1 in (came p x p_in (inr here), (y, in_flat (λ (p : Part C). p.taken.items) ps p y p_in y_in, by));
        leaves = λ x h.
            let (r, r_in, x_of) = (are.has x).0 ((in_append items others x).0 h) in
            let (p, p_in, is) = of_range r r_in in
            elim (is.takes.leaves x ((is.all x).1 x_of)) [
              | inl there ↦ inl (x, in_flat (λ (p : Part C). p.rest.items) ps p x p_in there, refl)
              | inr (inl (y, y_in, at)) ↦ inr (inl (y, in_flat (λ (p : Part C). p.taken.items) ps p y p_in y_in, at))
              | inr (inr closed) ↦ inr (inr closed)
            ];
      };
      sorted = pairs_flat (λ p. p.rest.items) NotAfter ps (λ p h. (of_part p h).2.sorted) (ascend (λ p. p.rest.items) (λ p x h. inr h));
    })

  -- what is joined of the parts is what one pass over all takes
  pub joined_take : (Open : Spot → Type 0) (items : List (Item C)) (ps : List (Part C)) (took back : List (Item C)) → ArePassed components Open items ps
      → AreJoined components ps took back → TakesOpenSpots spot Open items took (rest_of ps ++ back)
  joined_take Open items ps took back passed = parts_take spot Open items (taken_of ps) (rest_of ps) took back passed.apart
