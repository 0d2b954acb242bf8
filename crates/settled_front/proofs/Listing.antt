-- Costs without a double: one more of them, and their list in ascending order.
use Rattle.std.proofs.Common.{◌≡◌, ◌≢◌, ℕ, List, [], ◌∷◌, ◌++◌, append_assoc, get_or, map, inl, inr, sym, ap, subst, ◌∙◌, arith, is_lt, AllPairs}
use Rattle.std.proofs.Common.{IsPermutation, IsSorted}
use Rattle.std.specs.Cmp.Lexicographic.{nat_list_cmp_total}
use Rattle.std.proofs.lemmas.Bool.{false≢true}
use Rattle.std.proofs.lemmas.List.{get_or-map, length-map}
use Rattle.std.proofs.lemmas.List.Sorted.{IsPermutation-append_left, IsPermutation-map, IsPermutation-sym, IsPermutation-to_front, IsPermutation-trans}
use Rattle.std.proofs.lemmas.List.Sorted.{ranks_by, sorted_far}
use Rattle.cost_vector.specs.Costs.{AtMost, LexLess, lex_cmp}
use Rattle.cost_vector.specs.declared.compact_cost.CompactCost.{CompactCost}
use Rattle.cost_vector.proofs.Vectors.{AtMost-refl, cases_LexLess}
use Rattle.list_laws.proofs.OnceLaws.{once_in_any_order}
use Rattle.list_laws.proofs.Pairs.{pairs_cons, pairs_map}
use Rattle.list_laws.proofs.SetLaws.{same_by_permutation}
use Rattle.settled_front.specs.Fronts.{IsCovered, ListsCosts}

-- a cost comes to the latest ones, and those in blocks are moved
pub comes_late : (before blocks latest late after : List (List ℕ)) (c : List ℕ) → late ≡ latest ++ c ∷ [] → blocks ++ latest ≡ before
    → IsPermutation blocks after → IsPermutation (c ∷ before) (after ++ late)
comes_late before blocks latest late after c is same moved =
    let grown : blocks ++ late ≡ before ++ c ∷ [] =
    ap (λ l. blocks ++ l) is ∙ sym (append_assoc blocks latest (c ∷ [])) ∙ ap (λ l. l ++ c ∷ []) same in
    IsPermutation-trans (c ∷ before) (blocks ++ late) (after ++ late)
    (rw grown (IsPermutation-sym (before ++ c ∷ []) (c ∷ before) (IsPermutation-to_front before c))) (IsPermutation-append_left late blocks after moved)

-- a cost is no double, if none is at most it
pub once_more : (before after : List (List ℕ)) (c : List ℕ) → ¬ IsCovered before c → IsPermutation (c ∷ before) after → AllPairs ◌≢◌ before → AllPairs ◌≢◌ after
once_more before after c fresh moved once = once_in_any_order (c ∷ before) after moved (pairs_cons ◌≢◌ c before
    (λ x h same. fresh (record { by = x; contains = h; at_most = subst (λ y. AtMost y c) same (AtMost-refl c) })) once)

-- sorted, they are listed
pub lists_sorted : {D : ℕ} (costs : List (List ℕ)) (before after : List (CompactCost D)) → AllPairs ◌≢◌ costs → map (λ (c : CompactCost D). c.0) before ≡ costs
    → IsPermutation before after → IsSorted (λ (a b : CompactCost D). lex_cmp a.0 b.0) after → ListsCosts costs (map (λ (c : CompactCost D). c.0) after)
lists_sorted {D} costs before after once same moved sorted =
    let components : CompactCost D → List ℕ = λ c. c.0 in
    let moved_too : IsPermutation costs (map components after) = rw (← same) (IsPermutation-map components before after moved) in
    let apart = once_in_any_order costs (map components after) moved_too once in
    let ranks = sorted_far (λ (x y : CompactCost D). is_lt (lex_cmp x.0 y.0)) (ranks_by nat_list_cmp_total components) after sorted in
    record {
      ascending = pairs_map (λ (x y : CompactCost D). LexLess x.0 y.0) LexLess components (λ x y h. h) after (λ i j d before within.
          elim (cases_LexLess (get_or after i d).0 (get_or after j d).0) [
            | inl less ↦ less
            | inr (inl same) ↦ absurd (apart i j d.0 before (omega (arith, within, length-map after components))
                (get_or-map components after i d d.0 (omega arith) ∙ same ∙ sym (get_or-map components after j d d.0 within)))
            | inr (inr more) ↦ absurd (false≢true (sym (ranks i j d (omega arith) within) ∙ ap is_lt more))
          ]);
      exact = same_by_permutation costs (map components after) moved_too;
    }
