-- What the stored parts of costs say of the costs.
use Rattle.std.proofs.Common.{◌≡◌, ℕ, ◌+◌, ◌^◌, ◌<◌, ◌≤◌, ◌↔◌, List, length, get_or, All, arith}
use Rattle.std.proofs.lemmas.List.Elements.{All-weaker, AllZip-get_or}
use Rattle.cost_vector.specs.Costs.{AtMost, plus}
use Rattle.cost_vector.proofs.Components.{AtMost_from_places}
use Rattle.cost_vector.proofs.Vectors.{All-plus}

-- parts that are compared place by place
pub at_most_by_places : {R : Type 0} (a b : List ℕ) (n : ℕ) → length a ≡ n → length b ≡ n → R ↔ ((k : ℕ) → k < n → get_or a k 0 ≤ get_or b k 0) → R ↔ AtMost a b
at_most_by_places a b n long other_long tells = (
  λ r. AtMost_from_places a b (omega arith) (λ k within. tells.0 r k (omega arith)),
  λ below. tells.1 (λ k within. AllZip-get_or ◌≤◌ a b k 0 0 below (omega arith)),
)

-- a cost below a bound that a width has leaves room for a weight
pub sums_fit : (bound : ℕ) (c w : List ℕ) → bound ≤ 2 ^ 63 → All (λ x. x < bound) c → All (λ x. x < 2 ^ 32) w → All (λ x. x < 2 ^ 64) (plus c w)
sums_fit bound c w room below small =
    All-weaker (λ x. x ≤ bound + 2 ^ 32) (λ x. x < 2 ^ 64) (λ x h. omega arith) (plus c w) (All-plus bound (2 ^ 32) c w
    (All-weaker (λ x. x < bound) (λ x. x ≤ bound) (λ x h. omega arith) c below) (All-weaker (λ x. x < 2 ^ 32) (λ x. x ≤ 2 ^ 32) (λ x h. omega arith) w small))
