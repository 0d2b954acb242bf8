-- A page that is taken over from another list: its elements, and what the states are that vectors then say.
use Rattle.std.proofs.Common.{◌≡◌, ◌≢◌, ℕ, ◌+◌, ◌-◌, ◌*◌, ◌≤◌, ◌<◌, ◌++◌, List, [], Some, length, min, take, drop, get_or, arith, rules, inl, inr, ap, ap₂, sym, subst, ◌∙◌}
use Rattle.std.specs.Prelude.{All, slice_get}
use Rattle.std.specs.Option.{option_map}
use Rattle.std.proofs.lemmas.Bool.{cases_lt}
use Rattle.std.proofs.lemmas.Option.{slice_get-get_or, slice_get_past, slice_get-map}
use Rattle.std.proofs.lemmas.List.{places, length-map, take_at, take_all, drop_all, drop-drop, length-drop}
use Rattle.std.proofs.lemmas.List.Elements.{All-append, All-take, All-drop}
use Rattle.arc_graph.specs.Graph.{Weights}
use Rattle.arc_graph.specs.Pages.{CopiesPage, IsOnPage, pages_of, with_copied_page}
use Rattle.arc_graph.specs.Stored.{AreStoredStates, IsStoredState, state_in, states_of}
use borrow.Rule.Slice.PartMut.{put_mid}

-- a part that is written over up to the end of a page or of the list
pub put_page : {X : Type 0} (page to : ℕ) (xs ys part : List X) → page * 4096 < length xs → length ys ≡ length xs
    → to ≡ min (length xs) (page * 4096 + 4096) → part ≡ take (to - page * 4096) (drop (page * 4096) ys)
    → put_mid (page * 4096) (to - page * 4096) xs part ≡ with_copied_page page ys xs
put_page {X} page to xs ys part there same to_is part_is = ap (λ l. take from xs ++ l) (elim (cases_lt (length xs) (from + 4096)) [
  | inl short ↦
      ap₂ ◌++◌ (part_is ∙ take_all (to - from) (drop from ys) (omega (arith, length-drop from ys))
      ∙ sym (take_all (end - from) (drop from ys) (omega (arith, length-drop from ys))))
      (drop_all (to - from) (drop from xs) (omega (arith, length-drop from xs)) ∙ sym (drop_all end xs (omega arith)))
  | inr whole ↦
      let same_size : to - from ≡ end - from = omega arith in
      let same_end : from + (to - from) ≡ end = omega arith in
      ap₂ ◌++◌ (part_is ∙ ap (λ n. take n (drop from ys)) same_size) (drop-drop (to - from) from xs ∙ ap (λ n. drop n xs) same_end)
]) where
  from : ℕ
  from = page * 4096

  end : ℕ
  end = (page + 1) * 4096

-- places that have the same
same_get : {X : Type 0} (xs ys : List X) (i : ℕ) (d : X) → length xs ≡ length ys
    → (i < length xs → get_or xs i d ≡ get_or ys i d) → slice_get xs i ≡ slice_get ys i
same_get xs ys i d same each = elim (cases_lt i (length xs)) [
  | inl within ↦ slice_get-get_or xs i d within ∙ ap Some (each within) ∙ sym (slice_get-get_or ys i d (omega arith))
  | inr past ↦ slice_get_past xs i past ∙ sym (slice_get_past ys i (omega arith))
]

module _ {X : Type 0} (page : ℕ) (xs ys : List X) (there : page * 4096 < length xs) (same : length ys ≡ length xs) where
  long : length (with_copied_page page ys xs) ≡ length xs
  long = search (rules, places)

  -- what holds of the elements of both lists
  all_copied : (P : X → Type 0) → All P xs → All P ys → All P (with_copied_page page ys xs)
  all_copied P all each = search (All-append, All-take, All-drop)

  get_copied : (k : ℕ) (d : X) → IsOnPage page k → slice_get (with_copied_page page ys xs) (k - 1) ≡ slice_get ys (k - 1)
  get_copied k d on = same_get (with_copied_page page ys xs) ys (k - 1) d (long ∙ sym same) (λ within.
      let begins : page * 4096 ≤ k - 1 = omega arith in
      let ends : k - 1 < page * 4096 + 4096 = omega arith in
      let there : k - 1 < length xs = omega (arith, long) in
      search (rules, places))

  get_kept : (other k : ℕ) (d : X) → other ≢ page → IsOnPage other k → slice_get (with_copied_page page ys xs) (k - 1) ≡ slice_get xs (k - 1)
  get_kept other k d apart on = same_get (with_copied_page page ys xs) xs (k - 1) d long (λ within. elim (cases_lt (k - 1) (page * 4096)) [
    | inl before ↦ search (rules, places)
    | inr behind ↦ let past : page * 4096 + 4096 ≤ k - 1 = omega arith in search (rules, places)
  ])

-- the states that vectors say
abbrev pub weights_in : ℕ → List (List ℕ) → Weights
weights_in d xs = record { criteria = d; states = states_of d xs }

-- the state at a place is what the vector there says
state_at : (d : ℕ) (xs zs : List (List ℕ)) (w : Weights) (i : ℕ) → weights_in d xs ≡ w → slice_get zs i ≡ slice_get xs i
    → slice_get (states_of d zs) i ≡ slice_get w.states i
state_at d xs zs w i says same =
    slice_get-map (state_in d) zs i ∙ ap (option_map (state_in d)) same ∙ sym (slice_get-map (state_in d) xs i) ∙ ap (λ v. slice_get v.states i) says

-- there are as many
count_in : (d : ℕ) (xs : List (List ℕ)) (w : Weights) → weights_in d xs ≡ w → length xs ≡ length w.states
count_in d xs w says = sym (length-map xs (state_in d)) ∙ ap (λ (v : Weights). length v.states) says

-- What is known of vectors in memory and of what they say, once a page of them was taken over from others.
pub record TookPage (page d e n : ℕ) (xs ys held read new : List (List ℕ)) (before from : Weights) : Type 0 where
  pub before_is : weights_in d xs ≡ before
  pub from_is : weights_in e ys ≡ from
  pub criteria : from.criteria ≡ before.criteria
  pub arcs : length from.states ≡ length before.states
  pub there : page < pages_of (length before.states)
  pub size : n ≡ length xs
  pub held_is : held ≡ xs
  pub read_is : read ≡ ys
  pub new_is : new ≡ with_copied_page page read held
  pub stored : AreStoredStates d xs
  pub other : AreStoredStates e ys

module _ {page d e n : ℕ} {xs ys held read new : List (List ℕ)} {before from : Weights} (took : TookPage page d e n xs ys held read new before from) where
  same_arcs : length ys ≡ length xs
  same_arcs = count_in e ys from took.from_is ∙ took.arcs ∙ sym (count_in d xs before took.before_is)

  begins : page * 4096 < length xs
  begins = let count = count_in d xs before took.before_is in omega (arith, count, took.there)

  same_criteria : e ≡ d
  same_criteria = ap (λ (w : Weights). w.criteria) took.from_is ∙ took.criteria ∙ sym (ap (λ (w : Weights). w.criteria) took.before_is)

  from_says : weights_in d ys ≡ from
  from_says = ap (λ c. weights_in c ys) (sym same_criteria) ∙ took.from_is

  -- what stands there now
  abbrev now : List (List ℕ)
  now = take n (new ++ drop (length new) xs)

  now_is : now ≡ with_copied_page page ys xs
  now_is =
      let made : new ≡ with_copied_page page ys xs = took.new_is ∙ ap₂ (with_copied_page page) took.read_is took.held_is in
      take_at new (drop (length new) xs) n (ap length made ∙ long page xs ys begins same_arcs ∙ sym took.size) ∙ made

  pub stored_now : AreStoredStates d now
  stored_now = subst (AreStoredStates d) (sym now_is) (record {
    two = took.stored.two;
    four = took.stored.four;
    count = omega (arith, took.stored.count, long page xs ys begins same_arcs);
    each = all_copied page xs ys begins same_arcs (IsStoredState d) took.stored.each (subst (λ c. All (IsStoredState c) ys) same_criteria took.other.each);
  })

  pub copied_now : CopiesPage page from before (weights_in d now)
  copied_now = subst (λ zs. CopiesPage page from before (weights_in d zs)) (sym now_is) (record {
    criteria = ap (λ w. w.criteria) took.before_is;
    arcs = length-map (with_copied_page page ys xs) (state_in d) ∙ long page xs ys begins same_arcs ∙ count_in d xs before took.before_is;
    copied = λ k on. state_at d ys (with_copied_page page ys xs) from (k - 1) from_says (get_copied page xs ys begins same_arcs k [] on);
    others = λ other apart k on.
        state_at d xs (with_copied_page page ys xs) before (k - 1) took.before_is (get_kept page xs ys begins same_arcs other k [] apart on);
  })
