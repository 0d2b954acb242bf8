-- What is taken of a sorted list, as one more of its members is seen.
use Rattle.std.proofs.Common.{arith, ◌≡◌, ℕ, List, [], ◌∷◌, ◌++◌, ◌⊎◌, inl, inr, map, refl, ◌∙◌, append-nil, append_assoc}
use Rattle.std.specs.Prelude.{AllPairs, Contains}
use Rattle.std.proofs.lemmas.List.{map-append}
use Rattle.cost_vector.specs.Costs.{Dominates}
use Rattle.cost_vector.proofs.Vectors.{Dominates-irrefl, Dominates-trans, LexLess_from_Dominates}
use Rattle.list_laws.proofs.Members.{in_first, in_map, in_one, of_map}
use Rattle.list_laws.proofs.OnceLaws.{in_append}
use Rattle.list_laws.proofs.Pairs.{pairs_map, pairs_push}
use Rattle.list_laws.specs.Sets.{SameMembers}
use Rattle.waiting_queue.specs.Taking.{HasSpot, IsDominatedIn, IsUndominatedBy, SetsApart, TakesOpen, TakesOpenSpots}
use Rattle.waiting_item.specs.Waiting.{Spot, SpotLess}
use Rattle.waiting_queue.proofs.OrderLemmas.{not_lex_less}

-- one element more at the end
pub in_push : {X : Type 0} (xs : List X) (y x : X) → Contains xs x → Contains (xs ++ y ∷ []) x
in_push xs y x h = (in_append xs (y ∷ []) x).1 (inl h)

pub last_in : {X : Type 0} (xs : List X) (y : X) → Contains (xs ++ y ∷ []) y
last_in xs y = (in_append xs (y ∷ []) y).1 (inr (in_first y []))

module _ {X : Type 0} (xs ys : List X) where
  -- what holds of each member of two lists holds of each member of both
  pub each_append : {P : X → Type 0} → ((x : X) → Contains xs x → P x) → ((x : X) → Contains ys x → P x) → (x : X) → Contains (xs ++ ys) x → P x
  each_append first second x h = elim ((in_append xs ys x).0 h) [ inl before ↦ first x before | inr behind ↦ second x behind ]

  -- what holds of some member of the first, or of the second, holds of some member of both
  some_before : {P : X → Type 0} → ((x : X) × Contains xs x × P x) → (x : X) × Contains (xs ++ ys) x × P x
  some_before (x, h, holds) = (x, (in_append xs ys x).1 (inl h), holds)

  some_behind : {P : X → Type 0} → ((x : X) × Contains ys x × P x) → (x : X) × Contains (xs ++ ys) x × P x
  some_behind (x, h, holds) = (x, (in_append xs ys x).1 (inr h), holds)

-- what holds of all and of one more
pub each_push : {X : Type 0} {P : X → Type 0} (xs : List X) (y : X) → ((x : X) → Contains xs x → P x) → P y → (x : X) → Contains (xs ++ y ∷ []) x → P x
each_push xs y all last = each_append xs (y ∷ []) all (λ x h. rw (in_one y x h) last)

-- each of the first two cases gives another
either_on : {A B C D N : Type 0} → (A → C) → (B → D) → A ⊎ (B ⊎ N) → C ⊎ (D ⊎ N)
either_on first second h = grind arith

-- the second case gives the first or the second, once more
either_again : {A B C D N : Type 0} → (A → C) → (B → C ⊎ (D ⊎ (¬ Unit {0}))) → A ⊎ (B ⊎ N) → C ⊎ (D ⊎ N)
either_again first second h = grind arith

-- ---- what is set apart, and what is taken

module _ {X : Type 0} (spot : X → Spot) (Open : Spot → Type 0) where
  -- what an open one dominates, one that was set apart does
  below_apart : {before apart after : List X} → SetsApart spot Open before apart after → (c : List ℕ) (z : X) → Contains before z → Open (spot z)
      → Dominates (spot z).cost c → IsDominatedIn spot apart c
  below_apart is c z there held below = elim (is.leaves z there) [
    | inl (y, stays, same) ↦
        let (by, gone, less) = (is.stays y stays).1 in
        (by, gone, Dominates-trans (spot by).cost (spot z).cost c (rw (← same) less) below)
    | inr (inl (y, gone, same)) ↦ (y, gone, rw same below)
    | inr (inr closed) ↦ absurd (closed held)
  ]

  module _ {before took after : List X} (ascending : AllPairs (λ a b. SpotLess (spot a) (spot b)) took)
      (held : (x : X) → Contains took x → Contains before x × Open (spot x) × IsUndominatedBy spot Open before (spot x).cost)
      (stays : (x : X) → Contains after x → Contains before x × IsDominatedIn spot took (spot x).cost) where
    -- what is taken is open and dominated by no open one, and each that isn't stays, has the spot of one that is, or isn't open
    spots_if : ((x : X) → Contains before x → HasSpot spot after (spot x) ⊎ (HasSpot spot took (spot x) ⊎ (¬ Open (spot x))))
        → TakesOpenSpots spot Open before took after
    spots_if leaves = record {
      taken = λ s. (
        λ (x, h, at). let was = held x h in rw (← at) ((x, was.0, refl), was.1, was.2),
        λ ((x, h, at), may, none). elim (leaves x h) [
          | inl (y, there, same) ↦
              let (by, gone, less) = (stays y there).1 in
              absurd (none by (held by gone).0 (held by gone).1 (rw (← at, ← same) less))
          | inr (inl (y, gone, same)) ↦ (y, gone, same ∙ at)
          | inr (inr closed) ↦ absurd (closed (rw at may))
        ],
      );
      among = λ x h. (held x h).0;
      ascending = ascending;
      stays = stays;
      leaves = leaves;
    }

    -- the same of members
    takes_if : ((x : X) → Contains before x → Contains after x ⊎ (HasSpot spot took (spot x) ⊎ (¬ Open (spot x)))) → TakesOpen spot Open before took after
    takes_if leaves = let spots = spots_if (λ x h. either_on (λ there. (x, there, refl)) (λ gone. gone) (leaves x h)) in assumption

  -- what is taken is open, and no open one dominates it
  held_if : {before took after : List X} → TakesOpen spot Open before took after
      → (x : X) → Contains took x → Contains before x × Open (spot x) × IsUndominatedBy spot Open before (spot x).cost
  held_if is x h = let was = (is.taken (spot x)).0 (x, h, refl) in (is.among x h, was.1, was.2)

  -- what is taken of a part is set apart
  pub apart_if_taken : (before took after : List X) → TakesOpen spot Open before took after → SetsApart spot Open before took after
  apart_if_taken before took after is = record {
    held = λ x h. let was = held_if is x h in (was.0, was.1);
    stays = is.stays;
    leaves = λ x h. either_on (λ there. (x, there, refl)) (λ gone. gone) (is.leaves x h);
  }

  -- only the members of what was there count
  pub takes_alike : (xs ys took left : List X) → SameMembers xs ys → TakesOpen spot Open xs took left → TakesOpen spot Open ys took left
  takes_alike xs ys took left same is = takes_if is.ascending
      (λ x h. let was = held_if is x h in ((same x).0 was.0, was.1, λ z there. was.2 z ((same z).1 there)))
      (λ x h. let was = is.stays x h in ((same x).0 was.0, was.1))
      (λ x h. is.leaves x ((same x).1 h))

  -- ---- more was seen

  -- what comes then stays, if what was taken dominates all of it
  pub takes_dominated : (seen took : List X) {left : List X} → TakesOpen spot Open seen took left → (rest : List X)
      → ((x : X) → Contains rest x → IsDominatedIn spot took (spot x).cost) → TakesOpen spot Open (seen ++ rest) took (left ++ rest)
  takes_dominated seen took {left} is rest dominated = takes_if is.ascending
      (λ x h.
      let was = held_if is x h in
      let free = each_append seen rest was.2 (λ z new may below.
      let (y, gone, above) = dominated z new in
      was.2 y (is.among y gone) (held_if is y gone).1 (Dominates-trans (spot y).cost (spot z).cost (spot x).cost above below)) in
      ((in_append seen rest x).1 (inl was.0), was.1, free))
      (each_append left rest (λ x old. let was = is.stays x old in ((in_append seen rest x).1 (inl was.0), was.1))
      (λ x new. ((in_append seen rest x).1 (inr new), dominated x new)))
      (each_append seen rest (λ x met. either_on (λ there. (in_append left rest x).1 (inl there)) (λ gone. gone) (is.leaves x met))
      (λ x new. inl ((in_append left rest x).1 (inr new))))

  -- s is seen, which comes before none that was seen
  module _ (seen took left : List X) (is : TakesOpen spot Open seen took left) (s : X)
      (behind : (x : X) → Contains seen x → ¬ SpotLess (spot s) (spot x)) where
    -- what was taken is taken still
    still_taken : (x : X) → Contains took x → Contains (seen ++ s ∷ []) x × Open (spot x) × IsUndominatedBy spot Open (seen ++ s ∷ []) (spot x).cost
    still_taken x h =
        let was = held_if is x h in
        let none = not_lex_less (spot x) (spot s) (behind x was.0) in
        let free = each_push seen s was.2 (λ may below. none (LexLess_from_Dominates (spot s).cost (spot x).cost below)) in
        (in_push seen s x was.0, was.1, free)

    -- it is dominated by what was taken, and stays
    pub takes_skip : IsDominatedIn spot took (spot s).cost → TakesOpen spot Open (seen ++ s ∷ []) took (left ++ s ∷ [])
    takes_skip by = takes_dominated seen took is (s ∷ []) (λ x h. rw (in_one s x h) by)

    -- it leaves
    pub takes_not : HasSpot spot took (spot s) ⊎ (¬ Open (spot s)) → TakesOpen spot Open (seen ++ s ∷ []) took left
    takes_not why = takes_if is.ascending still_taken (λ x h. let was = is.stays x h in (in_push seen s x was.0, was.1)) (each_push seen s is.leaves (inr why))

    -- it is taken
    pub takes_more : Open (spot s) → ¬ IsDominatedIn spot took (spot s).cost → ((x : X) → Contains took x → SpotLess (spot x) (spot s))
        → TakesOpen spot Open (seen ++ s ∷ []) (took ++ s ∷ []) left
    takes_more held free before =
        let least : IsUndominatedBy spot Open (seen ++ s ∷ []) (spot s).cost = each_push seen s
        (λ z old may below. free (below_apart (apart_if_taken seen took left is) (spot s).cost z old may below)) (λ may. Dominates-irrefl (spot s).cost) in
        takes_if (pairs_push (λ a b. SpotLess (spot a) (spot b)) took s is.ascending before) (each_push took s still_taken (last_in seen s, held, least))
        (λ x h. let was = is.stays x h in (in_push seen s x was.0, some_before took (s ∷ []) was.1))
        (each_push seen s (λ x old. either_on (λ there. there) (some_before took (s ∷ [])) (is.leaves x old)) (inr (inl (s, last_in took s, refl))))

-- ---- parts of a list

module _ {X : Type 0} (spot : X → Spot) (Open : Spot → Type 0) where
  -- What was set apart is passed once more, with all of it open: what is taken then is what one pass over all takes, and what that
  -- pass leaves goes back.
  pub parts_take : (before apart after took rest : List X) → SetsApart spot Open before apart after → TakesOpen spot (λ _. Unit {0}) apart took rest
      → TakesOpenSpots spot Open before took (after ++ rest)
  parts_take before apart after took rest is once =
      let again = apart_if_taken spot (λ _. Unit {0}) apart took rest once in
      spots_if spot Open once.ascending
      (λ x h.
      let from = is.held x (once.among x h) in
      let free : IsUndominatedBy spot Open before (spot x).cost = λ z there may below.
      let by = below_apart spot Open is (spot x).cost z there may below in (held_if spot (λ _. Unit {0}) once x h).2 by.0 by.1 tt by.2 in
      (from.0, from.1, free))
      (each_append after rest
      (λ x h. let was = is.stays x h in (was.0, below_apart spot (λ _. Unit {0}) again (spot x).cost was.1.0 was.1.1 tt was.1.2))
      (λ x h. let was = once.stays x h in ((is.held x was.0).0, was.1)))
      (λ x h. either_again (some_before after rest) (λ (y, gone, at). rw (← at) (either_on (some_behind after rest) (λ taken. taken) (again.leaves y gone)))
      (is.leaves x h))

-- what is said of members holds of what they tell
module _ {X Y : Type 0} (spot : Y → Spot) (tell : X → Y) (Open : Spot → Type 0) where
  -- what holds of what some member tells holds of some that is told
  some_told : {P : Y → Type 0} (xs : List X) → ((x : X) × Contains xs x × P (tell x)) → (y : Y) × Contains (map tell xs) y × P y
  some_told xs (x, h, holds) = (tell x, in_map tell xs x h, holds)

  -- what holds of what each member tells holds of each that is told
  each_told : (P : Y → Type 0) (xs : List X) → ((x : X) → Contains xs x → P (tell x)) → (y : Y) → Contains (map tell xs) y → P y
  each_told P xs each y h = let (x, there, same) = of_map tell xs y h in rw same (each x there)

  -- what is taken of members tells what is taken of what they tell
  spots_told : (before took after : List X) → TakesOpenSpots (λ x. spot (tell x)) Open before took after
      → TakesOpenSpots spot Open (map tell before) (map tell took) (map tell after)
  spots_told before took after is = spots_if spot Open
      (pairs_map (λ a b. SpotLess (spot (tell a)) (spot (tell b))) (λ a b. SpotLess (spot a) (spot b)) tell (λ x z h. h) took is.ascending)
      (each_told _ took (λ x h. let was = (is.taken (spot (tell x))).0 (x, h, refl) in (in_map tell before x (is.among x h), was.1, each_told _ before was.2)))
      (each_told _ after (λ x h. let was = is.stays x h in (in_map tell before x was.0, some_told took was.1)))
      (each_told _ before (λ x h. either_on (some_told after) (some_told took) (is.leaves x h)))

  -- what comes is told behind what was there
  pub spots_let_in : (items late fresh took after : List X) → TakesOpenSpots (λ x. spot (tell x)) Open (items ++ (late ++ fresh)) took after
      → TakesOpenSpots spot Open (map tell (items ++ late) ++ map tell fresh) (map tell took) (map tell after)
  spots_let_in items late fresh took after is = rw (← map-append, append_assoc) (spots_told (items ++ (late ++ fresh)) took after is)
