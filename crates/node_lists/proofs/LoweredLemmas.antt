-- Costs off which a vector is taken: they keep their order.
use Rattle.std.proofs.Common.{◌≡◌, ℕ, ◌+◌, ◌<◌, ◌≤◌, List, [], ◌∷◌, length, map, get_or, set, refl, inl, inr, sym, ap, ap₂, subst, subst₂, ◌∙◌, arith, Less, Equal, Greater, Vec}
use Rattle.std.specs.Prelude.{All, AllPairs, Contains}
use Rattle.std.specs.Ordering.{nat_cmp, ordering_then}
use Rattle.std.specs.Cmp.{nat_cmp_is}
use Rattle.std.specs.Vec.{with_items}
use Rattle.std.proofs.lemmas.Bool.{cases_eq, cases_lt}
use Rattle.std.proofs.lemmas.List.{length-map, length-set, get_or-map, get_or-set_same, get_or-set_other, ext_get_or, with_items_is}
use Rattle.std.proofs.lemmas.List.Elements.{All-nil, All-cons, All-head, All-tail, All-map}
use Rattle.list_laws.proofs.Members.{all_from_in, each_in, in_map}
use Rattle.cost_vector.specs.Costs.{AtMost, LexLess, lex_cmp, plus}
use Rattle.cost_vector.proofs.Vectors.{AtMost-plus_self}
use Rattle.node_lists.specs.FoundLists.{AreLowered, IsLowered}

-- ---- the order

same_order : (x y z : ℕ) → nat_cmp (x + z) (y + z) ≡ nat_cmp x y
same_order x y z = elim (cases_eq x y) [
  | inl same ↦ sym (nat_cmp_is (x + z) (y + z) Equal (omega (arith, same))) ∙ nat_cmp_is x y Equal same
  | inr other ↦ elim (cases_lt x y) [
    | inl less ↦ sym (nat_cmp_is (x + z) (y + z) Less (omega (arith, less))) ∙ nat_cmp_is x y Less less
    | inr not ↦ sym (nat_cmp_is (x + z) (y + z) Greater (omega (arith, not, other))) ∙ nat_cmp_is x y Greater (omega (arith, not, other))
  ]
]

lex_cmp-plus : (a b w : List ℕ) → length a ≡ length w → length b ≡ length w → lex_cmp (plus a w) (plus b w) ≡ lex_cmp a b
lex_cmp-plus [] [] w long long_too = refl
lex_cmp-plus (x ∷ xs) (y ∷ ys) (z ∷ zs) long long_too =
    ap₂ ordering_then (same_order x y z) (lex_cmp-plus xs ys zs (omega (arith, long)) (omega (arith, long_too)))
lex_cmp-plus [] (y ∷ ys) w long long_too = absurd (omega (arith, long, long_too))
lex_cmp-plus (x ∷ xs) [] w long long_too = absurd (omega (arith, long, long_too))
lex_cmp-plus (x ∷ xs) (y ∷ ys) [] long long_too = absurd (omega (arith, long))

-- there is room for what is at most what there is room for
pub lesser_fits : (bound : ℕ) (a b : List ℕ) → AtMost a b → All (λ x. x < bound) b → All (λ x. x < bound) a
lesser_fits bound [] b less fits = All-nil (λ x. x < bound)
lesser_fits bound (x ∷ xs) [] less fits = absurd less
lesser_fits bound (x ∷ xs) (y ∷ ys) less fits =
    let first : y < bound = All-head (λ x. x < bound) y ys fits in
    All-cons (λ x. x < bound) x xs (omega (arith, first, less.0)) (lesser_fits bound xs ys less.1 (All-tail (λ x. x < bound) y ys fits))

module _ {by : List ℕ} {costs left : List (List ℕ)} (are : AreLowered by costs left) where
  abbrev f : List ℕ → List ℕ
  f c = plus c by

  pub as_many : length left ≡ length costs
  as_many = sym (length-map left f) ∙ ap length are.sums

  pub ascend_too : AllPairs LexLess costs → AllPairs LexLess left
  ascend_too ascending i j d below inside =
      let rises = subst (AllPairs LexLess) (sym are.sums) ascending i j [] below (omega (arith, inside, length-map left f)) in
      let here = get_or-map f left i d [] (omega (arith, below, inside)) in
      let next = get_or-map f left j d [] inside in
      sym (lex_cmp-plus (get_or left i d) (get_or left j d) by (are.long i d (omega (arith, below, inside))) (are.long j d inside)) ∙ subst₂ LexLess here next rises

  pub fit_too : (bound : ℕ) → All (All (λ x. x < bound)) costs → All (All (λ x. x < bound)) left
  fit_too bound fits = all_from_in (All (λ x. x < bound)) left (λ c there.
      let sum = subst (λ cs. Contains cs (plus c by)) are.sums (in_map f left c there) in
      let long = each_in (λ e. length e ≡ length by) left are.long c there in
      lesser_fits bound c (plus c by) (AtMost-plus_self c by long) (each_in (All (λ x. x < bound)) costs fits (plus c by) sum))

-- ---- one after another

-- the vector is taken off the first n
pub record AreLoweredTo {C : Type 0} (f : C → List ℕ) (by : List ℕ) (old new : List C) (n : ℕ) : Type 0 where
  pub as_long : length new ≡ length old
  pub first : (k : ℕ) (d : C) → k < n → k < length old → IsLowered by (f (get_or old k d)) (f (get_or new k d))
  pub others : (k : ℕ) (d : C) → n ≤ k → get_or new k d ≡ get_or old k d

module _ {C : Type 0} (f : C → List ℕ) (by : List ℕ) (old : List C) where
  pub lowered_none : AreLoweredTo f by old old 0
  lowered_none = record { as_long = refl; first = λ k d below inside. absurd (omega arith); others = λ k d from. refl }

  pub lowered_more : (new : List C) (n : ℕ) (c : C) → AreLoweredTo f by old new n → n < length old → ((d : C) → IsLowered by (f (get_or old n d)) (f c))
      → AreLoweredTo f by old (set new n c) (n + 1)
  lowered_more new n c to within is = record {
    as_long = length-set new n c ∙ to.as_long;
    first = λ k d below inside. elim (cases_eq k n) [
      | inl same ↦ rw (same, get_or-set_same new n c d (omega (arith, within, to.as_long))) (is d)
      | inr other ↦ rw (get_or-set_other new n k c d other) (to.first k d (omega (arith, below, other)) inside)
    ];
    others = λ k d from. get_or-set_other new n k c d (omega (arith, from)) ∙ to.others k d (omega (arith, from));
  }

  -- the next one still has it
  pub still_there : (new : List C) (n : ℕ) (d : C) → AreLoweredTo f by old new n → n < length old → All (AtMost by) (map f old) → AtMost by (f (get_or new n d))
  still_there new n d to within below =
      subst (AtMost by) (get_or-map f old n d [] within ∙ ap f (sym (to.others n d (omega arith)))) (below n [] (omega (arith, within, length-map old f)))

  pub lowered_whole : (new : List C) (n : ℕ) → AreLoweredTo f by old new n → length old ≤ n → AreLowered by (map f old) (map f new)
  lowered_whole new n to all = record {
    long = All-map (λ c. length c ≡ length by) f new (λ k d inside. (to.first k d (omega (arith, inside, all, to.as_long)) (omega (arith, inside, to.as_long))).long);
    sums = ext_get_or [] (map (λ c. plus c by) (map f new)) (map f old) (omega (arith, length-map (map f new) (λ c. plus c by), length-map new f, length-map old f, to.as_long)) (λ k inside. at k (omega (arith, inside, length-map (map f new) (λ c. plus c by), length-map new f, to.as_long)));
  } where
    at : (k : ℕ) → k < length old → get_or (map (λ c. plus c by) (map f new)) k [] ≡ get_or (map f old) k []
    at k inside = by_list old refl inside where
      by_list : (xs : List C) → xs ≡ old → k < length old → get_or (map (λ c. plus c by) (map f new)) k [] ≡ get_or (map f old) k []
      by_list [] is within = absurd (omega (arith, within, ap length is))
      by_list (d ∷ xs) is within =
          get_or-map (λ c. plus c by) (map f new) k [] [] (omega (arith, within, length-map new f, to.as_long))
          ∙ ap (λ c. plus c by) (get_or-map f new k d [] (omega (arith, within, to.as_long)))
          ∙ (to.first k d (omega (arith, within, all)) within).sum ∙ sym (get_or-map f old k d [] within)

-- those of a vector
pub lowered_items : {C Z : Type 0} (f : C → List ℕ) (by : List ℕ) (v : Vec C Z) (ws : List C) → AreLowered by (map f v.items) (map f ws)
    → AreLowered by (map f v.items) (map f (with_items v ws).items)
lowered_items f by v ws lowered =
    let long : length ws ≡ v.len = omega (arith, as_many lowered, length-map ws f, length-map v.items f, v.ok.0) in
    subst (λ ls. AreLowered by (map f v.items) (map f ls)) (sym (with_items_is v ws long)) lowered
