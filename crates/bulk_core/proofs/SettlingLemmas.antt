-- What is settled where spots are settled one after another.
use Rattle.std.proofs.Common.{◌≡◌, ◌≢◌, ◌⊎◌, ◌↔◌, ℕ, ◌+◌, ◌<◌, List, [], ◌∷◌, length, get_or, map, take, inl, inr, refl, sym, ap, subst, ◌∙◌, arith}
use Rattle.std.specs.Prelude.{All, Contains, IsPermutation}
use Rattle.std.proofs.lemmas.Bool.{cases_eq}
use Rattle.std.proofs.lemmas.List.{get_or-map, length-map}
use Rattle.cost_vector.specs.Costs.{Dominates}
use Rattle.list_laws.proofs.Members.{all_from_in, in_first, in_none}
use Rattle.list_laws.proofs.OnceLaws.{alike_through, once_apart}
use Rattle.list_laws.proofs.Pairs.{pairs_take}
use Rattle.list_laws.proofs.SetLaws.{gains_by_permutation}
use Rattle.road_network.specs.Network.{IsNode}
use Rattle.settled_front.specs.Fronts.{IsCovered}
use Rattle.settled_fronts.specs.NodeFronts.{SameElsewhere, costs_at}
use Rattle.bulk_rounds.specs.Cores.{Spot}
use Rattle.bulk_rounds.proofs.SpentLemmas.{spot_by_parts}
use Rattle.bulk_core.proofs.ListLemmas.{of_take, one_more, take_more}
use Rattle.bulk_core.specs.Settled.{CanSettle, IsSettledBy, SameBounds, Settled, SettlesFirst}

-- no spot yet
pub settles_none : (s : Settled) (spots : List Spot) → SettlesFirst s s spots 0
settles_none s spots = search (arith, in_none)

-- the costs of the node v gain what Gained holds of
module _ {before mid after : Settled} {spots : List Spot} {i : ℕ} (settles : SettlesFirst before mid spots i) (bounds : SameBounds mid after) (v : ℕ)
    (elsewhere : SameElsewhere v mid.fronts after.fronts) (Gained : List ℕ → Type 0)
    (here : (c : List ℕ) → Contains (costs_at after.fronts v) c ↔ (Contains (costs_at mid.fronts v) c ⊎ Gained c)) where
  pub settles_on : (many : ℕ) → ((x : Spot) → Contains (take many spots) x ↔ (Contains (take i spots) x ⊎ ((x.node ≡ v) × Gained x.cost)))
      → SettlesFirst before after spots many
  settles_on many more = record {
    bounds = let first = settles.bounds in grind arith;
    settled = λ x. joined (gained x) (settles.settled x) (more x);
  } where
    gained : (x : Spot) → IsSettledBy after x ↔ (IsSettledBy mid x ⊎ ((x.node ≡ v) × Gained x.cost))
    gained x = elim (cases_eq x.node v) [
      | inl node ↦ rw node (let h = here x.cost in grind arith)
      | inr other ↦ rw (elsewhere.others x.node other) (grind arith)
    ]

    joined : {A M G B T N : Type 0} → (A ↔ (M ⊎ G)) → (M ↔ (B ⊎ T)) → (N ↔ (T ⊎ G)) → (A ↔ (B ⊎ N))
    joined f g h = grind arith

-- the spot of a list's element
pub spot_at : {X : Type 0} (spot : X → Spot) (items : List X) (i : ℕ) (item : X) → i < length items → item ≡ get_or items i item
    → (i < length (map spot items)) × (spot item ≡ get_or (map spot items) i (spot item))
spot_at spot items i item below is =
    (omega (arith, below, length-map items spot), sym (get_or-map spot items i item (spot item) below ∙ ap spot (sym is)))

-- the next one, x, is settled
module _ {before mid : Settled} {spots : List Spot} {i : ℕ} (x : Spot) (are : CanSettle before spots) (settles : SettlesFirst before mid spots i)
    (below : i < length spots) (is : x ≡ get_or spots i x) where
  there : Contains spots x
  there = (i, below, sym is)

  not_yet : ¬ Contains (take i spots) x
  not_yet h = (once_apart (take i spots) (x ∷ []) (rw (← one_more spots i x below is) (pairs_take ◌≢◌ (i + 1) spots are.once))).1 x h (in_first x [])

  -- it may be settled
  pub may_push : IsNode mid.fronts.nodes x.node
      × (¬ IsCovered (costs_at mid.fronts x.node) x.cost × All (λ c. ¬ Dominates x.cost c) (costs_at mid.fronts x.node))
  may_push = (
    rw settles.bounds.nodes (are.nodes x there),
    (
      λ h. let y : Spot = record { cost = h.by; node = x.node } in elim ((settles.settled y).0 h.contains) [
        | inl old ↦ are.uncovered x there (record { by = h.by; contains = old; at_most = h.at_most })
        | inr new ↦ not_yet (subst (Contains (take i spots)) (are.apart y x (of_take i spots y new) there refl h.at_most) new)
      ],
      all_from_in (λ c. ¬ Dominates x.cost c) (costs_at mid.fronts x.node) (λ e e_in less.
          let y : Spot = record { cost = e; node = x.node } in elim ((settles.settled y).0 e_in) [
            | inl old ↦ are.spares x there e old less
            | inr new ↦ less.differs (ap (λ (z : Spot). z.cost) (are.apart x y there (of_take i spots y new) refl less.at_most))
          ]),
    ),
  )

  -- so one more is settled
  pub settles_one_more : {after : Settled} → SameBounds mid after → SameElsewhere x.node mid.fronts after.fronts
      → IsPermutation (x.cost ∷ costs_at mid.fronts x.node) (costs_at after.fronts x.node) → SettlesFirst before after spots (i + 1)
  settles_one_more {after} bounds elsewhere pushed = settles_on settles bounds x.node elsewhere (λ c. c ≡ x.cost)
      (gains_by_permutation x.cost (costs_at mid.fronts x.node) (costs_at after.fronts x.node) pushed) (i + 1)
      (λ y. alike_through (take_more spots i x below is y) (
        elim [ inl old ↦ inl old | inr same ↦ inr (ap (λ (z : Spot). z.node) same, ap (λ (z : Spot). z.cost) same) ],
        elim [ inl old ↦ inl old | inr h ↦ inr (spot_by_parts y x h.0 h.1) ],
      ))
