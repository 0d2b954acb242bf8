-- The rests of costs, all of which are kept.
use Rattle.std.proofs.Common.{◌≡◌, ℕ, ◌<◌, List, [], ◌∷◌, ◌++◌, length, get_or, inl, inr, refl, sym, subst, arith}
use Rattle.std.specs.Prelude.{IsPermutation}
use Rattle.std.proofs.lemmas.List.Elements.{All-push, Contains-append_left, Contains-push}
use Rattle.list_laws.proofs.Members.{cases_in, cases_push, in_first, in_rest}
use Rattle.list_laws.proofs.SetLaws.{same_by_permutation}
use Rattle.cost_vector.specs.Costs.{AtMost}
use Rattle.cost_vector.proofs.Vectors.{AtMost-refl}
use Rattle.settled_list.specs.Ascending.{AreRestsOf, rest}

-- those behind the first of four
pub rest_of_four : (c : List ℕ) → length c ≡ 4 → get_or c 1 0 ∷ get_or c 2 0 ∷ get_or c 3 0 ∷ [] ≡ rest c
rest_of_four (a ∷ b ∷ d ∷ e ∷ []) long = refl
rest_of_four _ long = absurd (omega arith)

-- the rest of one more comes to them
pub rests_more : (costs rests after : List (List ℕ)) (c : List ℕ) → AreRestsOf costs rests → 0 < length c → IsPermutation (rest c ∷ rests) after
    → AreRestsOf (costs ++ c ∷ []) after
rests_more costs rests after c are some moved =
    let same = same_by_permutation (rest c ∷ rests) after moved in
    record {
      some = All-push (λ x. 0 < length x) costs c are.some some;
      from = λ r there. elim (cases_in (rest c) rests r ((same r).0 there)) [
        | inl is ↦ (c, Contains-push costs c, sym is)
        | inr old ↦
            let from = are.from r old in
            (from.0, Contains-append_left costs (c ∷ []) from.0 from.1, from.2)
      ];
      below = λ x there. elim (cases_push costs c x there) [
        | inr last ↦ record {
          by = rest c;
          contains = (same (rest c)).1 (in_first (rest c) rests);
          at_most = subst (λ y. AtMost (rest c) (rest y)) (sym last) (AtMost-refl (rest c));
        }
        | inl old ↦
            let by = are.below x old in
            record { by = by.by; contains = (same by.by).1 (in_rest (rest c) rests by.by by.contains); at_most = by.at_most }
      ];
    }
