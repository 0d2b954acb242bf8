-- How great the sums of weights can be.
use Rattle.std.proofs.Common.{ℕ, ◌+◌, ◌*◌, ◌-◌, ◌^◌, ◌<◌, ◌≤◌, List, [], ◌∷◌, length, reverse, replicate, Some, IfSome, sym, subst, arith}
use Rattle.std.specs.Prelude.{All}
use Rattle.std.proofs.lemmas.List.{length-reverse}
use Rattle.std.proofs.lemmas.List.Elements.{All-nil, All-cons, All-head, All-tail, All-weaker, All-replicate}
use Rattle.cost_vector.specs.Costs.{plus}
use Rattle.road_network.specs.Network.{Network, IsNetwork, AreSmall, Leads}
use Rattle.road_network.specs.Walks.{Arrives, IsWalk, IsSumOf}
use Rattle.list_laws.proofs.Members.{all_got}
use Rattle.road_network.proofs.WalkLaws.{arrives_by_walk}

abbrev IsAtMost : ℕ → ℕ → Type 0
IsAtMost n x = x ≤ n * (2 ^ 32 - 1)

pub sum_of_none : (d : ℕ) → IsSumOf 0 (replicate d 0)
sum_of_none d = All-replicate (IsAtMost 0) d 0 (omega arith)

pub sum_of_more : (n : ℕ) (c w : List ℕ) → IsSumOf n c → All (λ x. x < 2 ^ 32) w → IsSumOf (n + 1) (plus c w)
sum_of_more n [] w sums small = All-nil (IsAtMost (n + 1))
sum_of_more n (x ∷ xs) [] sums small = All-nil (IsAtMost (n + 1))
sum_of_more n (x ∷ xs) (y ∷ ys) sums small =
    let first = All-head (IsAtMost n) x xs sums in
    let weight : y < 2 ^ 32 = All-head (λ z. z < 2 ^ 32) y ys small in
    All-cons (IsAtMost (n + 1)) (x + y) (plus xs ys) (omega (arith, first, weight))
    (sum_of_more n xs ys (All-tail (IsAtMost n) x xs sums) (All-tail (λ z. z < 2 ^ 32) y ys small))

pub sum_of_most : (n m : ℕ) (c : List ℕ) → n ≤ m → IsSumOf n c → IsSumOf m c
sum_of_most n m c most sums = All-weaker (IsAtMost n) (IsAtMost m) (λ x at_most. omega (arith, at_most, most)) c sums

-- so many labels, and so many arcs, are beyond each budget and each graph
pub sum_below : (n : ℕ) (c : List ℕ) → n ≤ 2 ^ 26 → IsSumOf n c → All (λ x. x < 2 ^ 58) c
sum_below n c most sums = All-weaker (IsAtMost n) (λ x. x < 2 ^ 58) (λ x at_most. omega (arith, at_most, most)) c sums

module _ (net : Network) (small : AreSmall net.states) where
  pub small_by : (k u v : ℕ) (w : List ℕ) → Leads net k u w v → All (λ x. x < 2 ^ 32) w
  small_by k u v w arc = all_got (λ s. IfSome s (All (λ x. x < 2 ^ 32))) net.states (k - 1) (Some w) small arc.passable

  -- a walk costs at most its number of arcs times the greatest weight
  pub sum_of_arrival : (q : List ℕ) (s v : ℕ) (c : List ℕ) → Arrives net s q v c → IsSumOf (length q) c
  sum_of_arrival [] s v c walk = subst (IsSumOf 0) (sym walk.2) (sum_of_none net.criteria)
  sum_of_arrival (k ∷ before) s v c walk =
      let so_far = sum_of_arrival before s walk.at walk.before walk.walk in
      let one_more = sum_of_more (length before) walk.before walk.by so_far (small_by k walk.at v walk.by walk.leads) in
      let all = k ∷ before in
      subst (IsSumOf (length all)) (sym walk.cost) (sum_of_most (length before + 1) (length all) (plus walk.before walk.by) (omega arith) one_more)

  pub sum_of_walk : IsNetwork net → (p : List ℕ) (s v : ℕ) (c : List ℕ) → IsWalk net s p v c → IsSumOf (length p) c
  sum_of_walk is p s v c walk =
      sum_of_most (length (reverse p)) (length p) c (omega (arith, length-reverse p)) (sum_of_arrival (reverse p) s v c (arrives_by_walk net is p s v c walk))

  pub walk_below : IsNetwork net → (p : List ℕ) (s v : ℕ) (c : List ℕ) → length p ≤ 2 ^ 26 → IsWalk net s p v c → All (λ x. x < 2 ^ 58) c
  walk_below is p s v c most walk = sum_below (length p) c most (sum_of_walk is p s v c walk)
