-- A search in which nothing is settled, and the start waits if it is within the limit.
use Rattle.std.proofs.Common.{◌≡◌, ℕ, ◌+◌, List, [], ◌∷◌, Option, Some, None, get_or, length, replicate, inl, inr, refl, sym, ap, subst, ◌∙◌, arith}
use Rattle.std.specs.Prelude.{Contains, IfNone, IfSome, IsPermutation}
use Rattle.std.specs.Option.{option_map}
use Rattle.std.proofs.lemmas.List.{get_or-replicate, get_or_past, length-replicate}
use Rattle.std.proofs.lemmas.List.Folds.{sum_by-replicate}
use Rattle.std.proofs.lemmas.List.Sorted.{Contains-permutation, IsPermutation-sym}
use Rattle.std.proofs.lemmas.List.Sums.{sum-map}
use Rattle.list_laws.proofs.Members.{all_from_in, in_first, in_none, in_one}
use Rattle.cost_vector.proofs.Vectors.{AtMost-refl, zeros-plus}
use Rattle.cost_vector.specs.Costs.{AtMost, LexLess, Within}
use Rattle.road_network.specs.Network.{Network, IsNode}
use Rattle.waiting_item.specs.Waiting.{Waiting}
use Rattle.sweep_parts.specs.Settled.{costs_of, count_settled}
use Rattle.sweep_core.specs.Potentials.{IsConsistent, Potential}
use Rattle.sweep_core.specs.Sweeps.{IsFromSettled, IsHandled, IsStartIfAny, IsSweep, Sweep}

replicated : {A : Type 0} (n v : ℕ) (x : A) → get_or (replicate n x) v x ≡ x
replicated n v x = grind (arith, get_or-replicate n v x x, get_or_past (replicate n x) v x, length-replicate n x)

-- no node has a cost
none_at : (n v : ℕ) → costs_of (replicate n []) v ≡ []
none_at n v = replicated n v []

none_counted : (n : ℕ) → count_settled (replicate n []) ≡ 0
none_counted n = omega (arith, sum-map {X = List (List ℕ)} length (replicate n []), sum_by-replicate {X = List (List ℕ)} length n [])

module _ (net : Network) (t : ℕ) (P : Potential) (is : IsConsistent net t P) (s : Sweep) (start_node : IsNode net.nodes s.start)
    (target_node : IsNode net.nodes s.target) (none : s.settled ≡ replicate (net.nodes + 1) []) where
  empty : (v : ℕ) → costs_of s.settled v ≡ []
  empty v = ap (λ lists. costs_of lists v) none ∙ none_at (net.nodes + 1) v

  nothing : (v : ℕ) (c : List ℕ) → ¬ Contains (costs_of s.settled v) c
  nothing v c there = in_none c (subst (λ costs. Contains costs c) (empty v) there)

  sweep_of : ((h : List ℕ) → P s.start h → IsHandled s (record { cost = h; node = s.start }))
      → ((i : Waiting) → Contains s.queue i → IsFromSettled net P s.start s.settled i.spot × (i.from ≡ 0) × Within s.limit i.spot.cost) → IsSweep net P s
  sweep_of started waiting = record {
    count = ap length none ∙ length-replicate (net.nodes + 1) [];
    start_node = start_node;
    target_node = target_node;
    started = started;
    settled_from = λ x there. absurd (nothing x.node x.cost there);
    waiting_from = λ i waits. (waiting i waits).0;
    expanded = λ x there. absurd (nothing x.node x.cost there);
    relevant = λ x b there. absurd (nothing x.node x.cost there);
    small = λ x b there. absurd (nothing x.node x.cost there);
    ascending = λ i v waits. all_from_in (λ x. ¬ LexLess i.spot.cost x) (costs_of s.settled v) (λ x there. absurd (nothing v x there));
    within = λ i waits. (waiting i waits).2;
    came = λ i waits. inl (waiting i waits).1;
    few = omega (arith, ap count_settled none, none_counted (net.nodes + 1));
  }

  pub begins : {X : Type 0} (f : X → Waiting) (first : Option X) → IsStartIfAny P s.start s.limit (option_map f first) → IfNone first (s.queue ≡ [])
      → IfSome first (λ i. IsPermutation (f i ∷ []) s.queue) → IsSweep net P s
  begins f None beyond empty_queue one = sweep_of (λ h has. inl (inr (beyond h has))) (λ i waits. absurd (in_none i (subst (λ q. Contains q i) empty_queue waits)))
  begins f (Some x) is_start none_waits one = sweep_of started waiting where
    i : Waiting
    i = f x

    started : (h : List ℕ) → P s.start h → IsHandled s (record { cost = h; node = s.start })
    started h has = inr (record {
      item = f x;
      waits = Contains-permutation (f x ∷ []) s.queue (f x) one (in_first (f x) []);
      node = is_start.1;
      at_most = subst (λ c. AtMost c h) (is.one s.start h (f x).spot.cost has is_start.0) (AtMost-refl h);
    })

    waiting : (j : Waiting) → Contains s.queue j → IsFromSettled net P s.start s.settled j.spot × (j.from ≡ 0) × Within s.limit j.spot.cost
    waiting j waits =
        let same = in_one (f x) j (Contains-permutation s.queue (f x ∷ []) j (IsPermutation-sym (f x ∷ []) s.queue one) waits) in
        subst (λ (w : Waiting). IsFromSettled net P s.start s.settled w.spot × (w.from ≡ 0) × Within s.limit w.spot.cost) (sym same) (
          record {
            lifted = record {
              cost = replicate net.criteria 0;
              whole = length-replicate net.criteria 0;
              height = (f x).spot.cost;
              has = subst (λ v. P v (f x).spot.cost) (sym is_start.1) is_start.0;
              sum = sym (zeros-plus net.criteria (f x).spot.cost (is.whole s.start (f x).spot.cost is_start.0));
            };
            from = inl (is_start.1, refl);
          },
          is_start.2,
          is_start.3,
        )
