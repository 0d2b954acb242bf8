-- What the greatest cost within a limit tells.
use Rattle.std.proofs.Common.{ℕ, suc, ◌^◌, ◌<◌, ◌↔◌, List, [], ◌∷◌, Option, arith}
use Rattle.std.specs.Prelude.{All}
use Rattle.std.proofs.lemmas.List.Elements.{All-head, All-tail}
use Rattle.cost_vector.specs.Costs.{AtMost, Within}
use Rattle.sweep_parts.specs.Limits.{IsGreatestWithin}

-- a cost of 64 bits in each component is within the limit exactly where it is at most the greatest one
pub within_greatest : (limit : List (Option ℕ)) (most c : List ℕ) → IsGreatestWithin limit most → All (λ x. x < 2 ^ 64) c → AtMost c most ↔ Within limit c
within_greatest [] [] [] greatest fits = (λ h. h, λ h. h)
within_greatest [] [] (x ∷ xs) greatest fits = (λ h. h, λ h. h)
within_greatest [] (m ∷ ms) c greatest fits = absurd (omega (arith, greatest.long))
within_greatest (p ∷ ps) [] c greatest fits = absurd (omega (arith, greatest.long))
within_greatest (p ∷ ps) (m ∷ ms) [] greatest fits = (λ h. h, λ h. h)
within_greatest (p ∷ ps) (m ∷ ms) (x ∷ xs) greatest fits =
    let first = greatest.allowed 0 x (omega arith) (All-head (λ y. y < 2 ^ 64) x xs fits) in
    let rest = within_greatest ps ms xs
    (record { long = omega (arith, greatest.long); allowed = λ k y below. greatest.allowed (suc k) y (omega (arith, below)) }) (All-tail (λ y. y < 2 ^ 64) x xs fits) in
    (λ h. (first.1 h.0, rest.0 h.1), λ h. (first.0 h.0, rest.1 h.1))
