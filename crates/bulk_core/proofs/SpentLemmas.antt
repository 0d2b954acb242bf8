-- What tells which spots are spent: a dominating cost that is less in some component, and what is settled.
use Rattle.std.proofs.Common.{◌⊎◌, ℕ, zero, suc, ◌-◌, ◌<◌, ◌↔◌, List, [], ◌∷◌, length, get_or, set, inl, inr, refl, sym, arith}
use Rattle.std.specs.Prelude.{Bool, true, false, IsTrue, not}
use Rattle.std.proofs.lemmas.Bool.{cases_lt, false≢true}
use Rattle.cost_vector.specs.Costs.{AtMost}
use Rattle.cost_vector.proofs.Components.{AtMost_from_places}
use Rattle.cost_vector.proofs.Vectors.{AtMost-antisymm, AtMost-length}
use Rattle.settled_front.specs.Fronts.{IsCovered}
use Rattle.bulk_rounds.specs.Cores.{Core, IsSpent, Spot}
use Rattle.bulk_core.specs.Kept.{settled_of}
use Rattle.bulk_core.specs.Settled.{HasDominating, HasDominatingAt, IsSpentBy}

-- ---- the costs of the target

-- with one component less by one
lowered : (e c : List ℕ) (k : ℕ) → k < length c → 0 < get_or c k 0 → AtMost e (set c k (get_or c k 0 - 1)) ↔ (AtMost e c × (get_or e k 0 < get_or c k 0))
lowered e [] k below some = absurd (omega (arith, below))
lowered [] (y ∷ ys) zero below some = (λ h. absurd h, λ h. absurd h.0)
lowered [] (y ∷ ys) (suc k) below some = (λ h. absurd h, λ h. absurd h.0)
lowered (x ∷ xs) (y ∷ ys) zero below some = grind arith
lowered (x ∷ xs) (y ∷ ys) (suc k) below some = let rest = lowered xs ys k (omega (arith, below)) some in grind arith

-- where the lesser cost is covered, a member is less there
pub covered_lowered : (costs : List (List ℕ)) (c : List ℕ) (k : ℕ) → k < length c → 0 < get_or c k 0
    → IsCovered costs (set c k (get_or c k 0 - 1)) ↔ HasDominatingAt costs c k
covered_lowered costs c k below some = (
  λ h. let both = (lowered h.by c k below some).0 h.at_most in (h.by, h.contains, both.0, both.1),
  λ h. let (e, there, at_most, less) = h in record { by = e; contains = there; at_most = (lowered e c k below some).1 (at_most, less) },
)

-- where no member is less in any component, none dominates
pub none_dominates : (costs : List (List ℕ)) (c : List ℕ) → ((k : ℕ) → k < length c → ¬ HasDominatingAt costs c k) → ¬ HasDominating costs c
none_dominates costs c none (e, there, dominates) = dominates.differs (AtMost-antisymm e c dominates.at_most
    (AtMost_from_places c e (sym (AtMost-length e c dominates.at_most)) (λ k below. elim (cases_lt (get_or e k 0) (get_or c k 0)) [
      | inl less ↦ absurd (none k below (e, there, dominates.at_most, less))
      | inr not_less ↦ not_less
    ])))

-- ---- both

-- what tells one of two things, where the other isn't so
pub not_either : {P Q : Type 0} (b : Bool) → ¬ P → IsTrue b ↔ Q → IsTrue (not b) ↔ ¬ (P ⊎ Q)
not_either true none same = (λ h. absurd (false≢true h), λ h. absurd (h (inr (same.0 refl))))
not_either false none same = (λ h. elim [ inl p ↦ none p | inr q ↦ false≢true (same.1 q) ], λ h. refl)

-- what is settled tells which spots of a core are spent
pub spent_alike : (core : Core) (x : Spot) → IsSpentBy (settled_of core) x ↔ IsSpent core x
spent_alike core x = (
  elim [ inl covered ↦ inl (search) | inr (inl beyond) ↦ inr (inl beyond) | inr (inr beaten) ↦ inr (inr (search)) ],
  elim [ inl covered ↦ inl (search) | inr (inl beyond) ↦ inr (inl beyond) | inr (inr beaten) ↦ inr (inr (search)) ],
)

-- and which are open
pub open_alike : (core : Core) (x : Spot) → ¬ IsSpentBy (settled_of core) x ↔ ¬ IsSpent core x
open_alike core x = let alike = spent_alike core x in (λ unspent spent. unspent (alike.1 spent), λ unspent spent. unspent (alike.0 spent))
