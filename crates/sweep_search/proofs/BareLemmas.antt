-- Costs without the heights of their nodes, node by node.
use Rattle.std.proofs.Common.{◌≡◌, ◌≢◌, ◌↔◌, ℕ, ◌+◌, ◌<◌, ◌≤◌, List, None, length, inl, inr, refl, sym, ap, subst, ◌∙◌, arith}
use Rattle.std.specs.Prelude.{All, Contains}
use Rattle.std.proofs.lemmas.Bool.{cases_eq, cases_lt}
use Rattle.list_laws.proofs.Members.{all_from_in, each_in, in_map, of_map}
use Rattle.cost_vector.specs.Costs.{AtMost, plus}
use Rattle.cost_vector.proofs.Vectors.{AtMost-plus_self, plus_cancel, plus_comm}
use Rattle.road_network.specs.Network.{Network, IsNode}
use Rattle.sweep_parts.specs.Settled.{costs_of}
use Rattle.node_lists.specs.FoundLists.{AreLowered, FoundLists}
use Rattle.sweep_core.specs.Potentials.{IsConsistent, IsHeightIfAny, Potential}
use Rattle.sweep_search.specs.Finding.{AreLiftedAt, HasLifted, IsBareAt, IsSameFind}

abbrev Lists : Type 0
Lists = List (List (List ℕ))

module _ (net : Network) (t : ℕ) (P : Potential) (is : IsConsistent net t P) (before after : Lists) (v : ℕ) where
  -- where a node has no height, it has no costs
  pub bare_without_height : AreLiftedAt net P before v → costs_of after v ≡ costs_of before v → IsHeightIfAny P v None → IsBareAt net P before after v
  bare_without_height are same none c = (
    λ there. let b = are c (subst (λ xs. Contains xs c) same there) in absurd (none b.height b.has),
    λ has. absurd (none has.height has.has),
  )

  pub bare_if_no_node : AreLiftedAt net P before v → costs_of after v ≡ costs_of before v → ¬ IsNode net.nodes v → IsBareAt net P before after v
  bare_if_no_node are same other = bare_without_height are same (λ h has. other (is.nodes v h has))

  module _ (h : List ℕ) (has : P v h) where
    long : length h ≡ net.criteria
    long = is.whole v h has

    -- what is lowered is at least the height
    pub heights_fit : AreLiftedAt net P before v → All (AtMost h) (costs_of before v)
    heights_fit are = all_from_in (AtMost h) (costs_of before v) (λ f there.
        let b = are f there in
        let sum : f ≡ plus b.cost h = b.sum ∙ ap (plus b.cost) (is.one v b.height h b.has has) in
        subst (AtMost h) (sym sum) (subst (AtMost h) (plus_comm h b.cost) (AtMost-plus_self h b.cost (long ∙ sym b.whole))))

    pub bare_by_lowering : AreLowered h (costs_of before v) (costs_of after v) → IsBareAt net P before after v
    bare_by_lowering lowers c = (
      λ there. record {
        whole = each_in (λ x. length x ≡ length h) (costs_of after v) lowers.long c there ∙ long;
        height = h;
        has = has;
        there = subst (λ xs. Contains xs (plus c h)) lowers.sums (in_map (λ x. plus x h) (costs_of after v) c there);
      },
      λ own.
          let same = is.one v own.height h own.has has in
          let sum = subst (λ g. Contains (costs_of before v) (plus c g)) same own.there in
          let of = of_map (λ x. plus x h) (costs_of after v) (plus c h) (subst (λ xs. Contains xs (plus c h)) (sym lowers.sums) sum) in
          let left = each_in (λ x. length x ≡ length h) (costs_of after v) lowers.long of.0 of.1 in
          subst (Contains (costs_of after v)) (plus_cancel of.0 c h left (own.whole ∙ sym long) (sym of.2)) of.1,
    )

-- what was so before something else changed
pub bare_before : (net : Network) (P : Potential) (before between after : Lists) (v : ℕ) → costs_of between v ≡ costs_of before v
    → IsBareAt net P between after v → IsBareAt net P before after v
bare_before net P before between after v same bare c = (
  λ there.
      let has = (bare c).0 there in record {
        whole = has.whole;
        height = has.height;
        has = has.has;
        there = subst (λ xs. Contains xs (plus c has.height)) same has.there;
      },
  λ has. (bare c).1 (record {
    whole = has.whole;
    height = has.height;
    has = has.has;
    there = subst (λ xs. Contains xs (plus c has.height)) (sym same) has.there;
  }),
)

-- the nodes up to i have their costs without heights, and the others as they were
pub record AreBareUpTo (net : Network) (P : Potential) (i : ℕ) (before after : FoundLists) : Type 0 where
  pub same : IsSameFind before after
  pub done : (v : ℕ) → v ≤ i → IsBareAt net P before.lists after.lists v
  pub rest : (v : ℕ) → i < v → costs_of after.lists v ≡ costs_of before.lists v

module _ (net : Network) (t : ℕ) (P : Potential) (is : IsConsistent net t P) (before : FoundLists) (are : (v : ℕ) → AreLiftedAt net P before.lists v) where
  pub none_bare : AreBareUpTo net P 0 before before
  none_bare = record {
    same = record { criteria = refl; start = refl; target = refl; long = refl };
    done = λ v zero. bare_if_no_node net t P is before.lists before.lists v (are v) refl (λ node. omega (arith, node.0, zero));
    rest = λ v above. refl;
  }

  module _ (i : ℕ) (between : FoundLists) (so_far : AreBareUpTo net P i before between) where
    pub still_lifted : AreLiftedAt net P between.lists (i + 1)
    still_lifted f there = are (i + 1) f (subst (λ xs. Contains xs f) (so_far.rest (i + 1) (omega arith)) there)

    pub one_bare_more : (after : FoundLists) → IsSameFind between after → ((w : ℕ) → w ≢ i + 1 → costs_of after.lists w ≡ costs_of between.lists w)
        → IsBareAt net P between.lists after.lists (i + 1) → AreBareUpTo net P (i + 1) before after
    one_bare_more after same others here = record {
      same = record {
        criteria = same.criteria ∙ so_far.same.criteria;
        start = same.start ∙ so_far.same.start;
        target = same.target ∙ so_far.same.target;
        long = same.long ∙ so_far.same.long;
      };
      done = λ v up_to. elim (cases_eq v (i + 1)) [
        | inl now ↦
            subst (IsBareAt net P before.lists after.lists) (sym now)
            (bare_before net P before.lists between.lists after.lists (i + 1) (so_far.rest (i + 1) (omega arith)) here)
        | inr other ↦
            subst (λ costs. (c : List ℕ) → Contains costs c ↔ HasLifted net P before.lists v c) (sym (others v other)) (so_far.done v (omega (arith, up_to, other)))
      ];
      rest = λ v above. others v (λ now. omega (arith, above, now)) ∙ so_far.rest v (omega (arith, above));
    }

    pub all_bare : net.nodes ≤ i → (v : ℕ) → IsBareAt net P before.lists between.lists v
    all_bare ended v = elim (cases_lt i v) [
      | inr up_to ↦ so_far.done v up_to
      | inl above ↦ bare_if_no_node net t P is before.lists between.lists v (are v) (so_far.rest v above) (λ node. omega (arith, node.1, above, ended))
    ]
