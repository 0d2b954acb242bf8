-- A weight as the cost of one arc.
use Rattle.std.proofs.Common.{◌≡◌, ℕ, ◌+◌, ◌<◌, ◌^◌, List, [], ◌∷◌, length, replicate, refl, ap, ◌∙◌, arith}
use Rattle.std.specs.List.{All}
use Rattle.std.proofs.lemmas.List.Elements.{All-weaker}
use Rattle.cost_vector.specs.Costs.{plus}

zero_plus : (x : ℕ) → 0 + x ≡ x
zero_plus x = omega arith

-- standing still adds nothing
pub plus_zero : (w : List ℕ) → plus (replicate (length w) 0) w ≡ w
plus_zero [] = refl
plus_zero (x ∷ xs) = ap (λ y. y ∷ plus (replicate (length xs) 0) xs) (zero_plus x) ∙ ap (λ l. x ∷ l) (plus_zero xs)

-- a weight fits where a cost stands
pub fits_cost : (w : List ℕ) → All (λ x. x < 2 ^ 32) w → All (λ x. x < 2 ^ 64) w
fits_cost w all = All-weaker (λ x. x < 2 ^ 32) (λ x. x < 2 ^ 64) (λ x below. omega arith) w all
