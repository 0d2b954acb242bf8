-- What is kept of candidates, as one more is seen, and of candidates of different nodes.
use Rattle.std.proofs.Common.{◌≡◌, List, [], ◌∷◌, ◌++◌, ◌⊎◌, inl, inr, map, get_or, refl, subst, arith}
use Rattle.std.specs.Prelude.{All, AllPairs, Contains, IsPermutation}
use Rattle.cost_vector.specs.Costs.{AtMost}
use Rattle.cost_vector.proofs.Vectors.{AtMost-Dominates, AtMost-refl, Dominates-irrefl, LexLess_from_Dominates, cases_same}
use Rattle.std.proofs.lemmas.List.{get_or_default}
use Rattle.list_laws.proofs.Members.{cases_push, each_in, in_first, in_map, in_none, in_one, of_map}
use Rattle.list_laws.proofs.OnceLaws.{in_append, pairs_append}
use Rattle.list_laws.proofs.Pairs.{pairs_cons, pairs_map, pairs_none}
use Rattle.list_laws.proofs.SetLaws.{same_by_permutation}
use Rattle.waiting_queue.specs.Taking.{HasSpot}
use Rattle.waiting_item.specs.Waiting.{Spot, SpotLess}
use Rattle.waiting_queue.proofs.OrderLemmas.{not_lex_less}
use Rattle.waiting_queue.proofs.TakingLemmas.{in_push}
use Rattle.round_work.specs.Pieces.{Appends}
use Rattle.round_work.specs.Survivors.{AreNeeded, HasBelow, KeepsNeeded, KeepsSurvivors, Survives}

-- two members are the same, or one stands behind the other
either_way : {X : Type 0} (R : X → X → Type 0) (xs : List X) → AllPairs R xs → (x y : X) → Contains xs x → Contains xs y → (x ≡ y) ⊎ (R x y ⊎ R y x)
either_way R xs pairs x y h k =
    grind (arith, pairs h.0 k.0 x, pairs k.0 h.0 y, get_or_default xs k.0 x y k.1, get_or_default xs h.0 y x h.1)

module _ {X : Type 0} (spot : X → Spot) (Open : Spot → Type 0) where
  abbrev Keeps : List X → List X → Type 0
  Keeps = KeepsNeeded spot Open

  abbrev pub Done : List X → X → Type 0
  Done kept x = (¬ Open (spot x)) ⊎ HasBelow spot kept (spot x)

  -- also where more is kept
  pub done_on : (ks ls : List X) (x : X) → ((k : X) → Contains ks k → Contains ls k) → Done ks x → Done ls x
  done_on ks ls x more done = grind (arith, more)

  -- none is kept of none
  pub keeps_none : Keeps [] []
  keeps_none = record { among = λ x h. absurd (in_none x h); needed = pairs_none (AreNeeded spot); rest = λ x h. absurd (in_none x h) }

  -- two lists, where what is kept of the one is needed beside what is kept of the other
  pub keeps_beside : (xs ys ks ls : List X) → Keeps xs ks → Keeps ys ls → ((x y : X) → Contains ks x → Contains ls y → AreNeeded spot x y)
      → Keeps (xs ++ ys) (ks ++ ls)
  keeps_beside xs ys ks ls one two across = record {
    among = λ x h. elim ((in_append ks ls x).0 h) [
      | inl first ↦ ((in_append xs ys x).1 (inl (one.among x first).0), (one.among x first).1)
      | inr second ↦ ((in_append xs ys x).1 (inr (two.among x second).0), (two.among x second).1)
    ];
    needed = pairs_append (AreNeeded spot) ks ls one.needed two.needed across;
    rest = λ x h. elim ((in_append xs ys x).0 h) [
      | inl first ↦ done_on ks (ks ++ ls) x (λ k there. (in_append ks ls k).1 (inl there)) (one.rest x first)
      | inr second ↦ done_on ls (ks ++ ls) x (λ k there. (in_append ks ls k).1 (inr there)) (two.rest x second)
    ];
  }

  -- s is seen, which comes before none that was seen
  module _ (seen kept : List X) (is : Keeps seen kept) (s : X) where
    -- it isn't open, or one at most as costly is kept
    pub keeps_not : Done kept s → Keeps (seen ++ s ∷ []) kept
    keeps_not why = record {
      among = λ x h. (in_push seen s x (is.among x h).0, (is.among x h).1);
      needed = is.needed;
      rest = λ x h. elim (cases_push seen s x h) [ inl old ↦ is.rest x old | inr last ↦ rw last why ];
    }

    -- it is open, and none at most as costly is kept
    pub keeps_more : ((x : X) → Contains seen x → ¬ SpotLess (spot s) (spot x)) → Open (spot s) → All (λ k. ¬ AtMost (spot k).cost (spot s).cost) kept
        → Keeps (seen ++ s ∷ []) (kept ++ s ∷ [])
    keeps_more behind held free =
        let alone : Keeps (s ∷ []) (s ∷ []) = record {
          among = λ x h. (h, rw (in_one s x h) held);
          needed = pairs_cons (AreNeeded spot) s [] (λ x h. absurd (in_none x h)) (pairs_none (AreNeeded spot));
          rest = λ x h. inr (rw (in_one s x h) (record { by = s; member = in_first s []; node = refl; at_most = AtMost-refl (spot s).cost }));
        } in
        keeps_beside seen (s ∷ []) kept (s ∷ []) is alone (λ x y h last. rw (in_one s y last) (λ node. (
          each_in (λ k. ¬ AtMost (spot k).cost (spot s).cost) kept free x h,
          λ less. not_lex_less (spot x) (spot s) (behind x (is.among x h).0) (LexLess_from_Dominates (spot s).cost (spot x).cost less),
        )))

  -- in another order the same is kept
  pub keeps_moved : (xs ys kept : List X) → IsPermutation xs ys → Keeps ys kept → Keeps xs kept
  keeps_moved xs ys kept moved is =
      let same = same_by_permutation xs ys moved in
      record { among = λ x h. ((same x).0 (is.among x h).0, (is.among x h).1); needed = is.needed; rest = λ x h. is.rest x ((same x).1 h) }

  pub appends_moved : (xs ys before now : List X) → IsPermutation xs ys → Appends (Keeps ys) before now → Appends (Keeps xs) before now
  appends_moved xs ys before now moved is = record { more = is.more; whole = is.whole; gives = keeps_moved xs ys is.more moved is.gives }

  -- what is kept survives, and nothing else does
  module _ (xs kept : List X) (is : Keeps xs kept) where
    survives : (k : X) → Contains kept k → Survives spot Open xs (spot k)
    survives k h = record {
      candidate = (k, (is.among k h).0, refl);
      is_open = (is.among k h).1;
      undominated = λ x there held node less. elim (is.rest x there) [
        | inl closed ↦ closed held
        | inr by ↦
            let below = AtMost-Dominates (spot by.by).cost (spot x).cost (spot k).cost by.at_most less in
            let either = either_way (AreNeeded spot) kept is.needed k by.by h by.member in
            grind (arith, Dominates-irrefl, below, either, by.node, node)
      ];
    }

    is_kept : (s : Spot) → Survives spot Open xs s → HasSpot spot kept s
    is_kept s h = elim (rw h.candidate.2 at (is.rest h.candidate.0 h.candidate.1)) [
      | inl closed ↦ absurd (closed h.is_open)
      | inr by ↦
          let (there, held) = is.among by.by by.member in
          (by.by, by.member, grind (arith, cases_same (spot by.by).cost s.cost, h.undominated by.by there held by.node, by.at_most, by.node))
    ]

    -- and each once
    pub keeps_survivors : KeepsSurvivors spot Open xs kept
    keeps_survivors = record {
      exact = λ s. (λ h. subst (Survives spot Open xs) h.2 (survives h.0 h.1), is_kept s);
      once = λ i j d before within same. grind (arith, is.needed i j d before within, AtMost-refl (spot (get_or kept i d)).cost, same);
      among = λ x h. (is.among x h).0;
      rest = is.rest;
    }

-- what is said of members holds of what they tell
pub keeps_told : {X Y : Type 0} (spot : Y → Spot) (tell : X → Y) (Open : Spot → Type 0) (xs kept : List X) → KeepsNeeded (λ x. spot (tell x)) Open xs kept
    → KeepsNeeded spot Open (map tell xs) (map tell kept)
keeps_told spot tell Open xs kept is = record {
  among = λ y h. let (x, x_in, same) = of_map tell kept y h in rw same (in_map tell xs x (is.among x x_in).0, (is.among x x_in).1);
  needed = pairs_map (AreNeeded (λ x. spot (tell x))) (AreNeeded spot) tell (λ a b h. h) kept is.needed;
  rest = λ y h.
      let (x, x_in, same) = of_map tell xs y h in
      rw same (elim (is.rest x x_in) [
        | inl closed ↦ inl closed
        | inr by ↦ inr (record { by = tell by.by; member = in_map tell kept by.by by.member; node = by.node; at_most = by.at_most })
      ]);
}
