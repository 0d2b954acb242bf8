-- A settled list, and a cost more.
use Rattle.std.proofs.Common.{ℕ, List, [], ◌∷◌, ◌++◌, inl, inr, subst}
use Rattle.std.specs.Prelude.{Contains}
use Rattle.list_laws.proofs.Members.{each_in}
use Rattle.list_laws.proofs.Pairs.{pairs_push}
use Rattle.cost_vector.specs.Costs.{AtMost, LexLess}
use Rattle.cost_vector.proofs.Vectors.{AtMost-refl, cases_LexLess}
use Rattle.settled_front.specs.Fronts.{IsCovered}
use Rattle.sweep_parts.specs.Settled.{IsBehind, IsSettledList}

-- what is neither before one of them nor covered comes last
pub settled_push : (costs : List (List ℕ)) (c : List ℕ) → IsSettledList costs → IsBehind costs c → ¬ IsCovered costs c → IsSettledList (costs ++ c ∷ [])
settled_push costs c is behind uncovered = record {
  ascending = pairs_push LexLess costs c is.ascending later;
  apart = pairs_push (λ a b. ¬ AtMost a b) costs c is.apart above;
} where
  above : (x : List ℕ) → Contains costs x → ¬ AtMost x c
  above x there at_most = uncovered (record { by = x; contains = there; at_most = at_most })

  later : (x : List ℕ) → Contains costs x → LexLess x c
  later x there = elim (cases_LexLess x c) [
    | inl less ↦ less
    | inr (inl same) ↦ absurd (above x there (subst (AtMost x) same (AtMost-refl x)))
    | inr (inr before) ↦ absurd (each_in (λ y. ¬ LexLess c y) costs behind x there before)
  ]
