-- The numbers of the arcs with a tail.
use Rattle.std.proofs.Common.{◌≡◌, ℕ, zero, suc, ◌+◌, ◌<◌, ◌≤◌, length, get_or, true, false, cond, List, [], ◌∷◌, Option, Some, None, sym, ap, subst, ◌∙◌}
use Rattle.std.proofs.Common.{inl, inr, eq-eqb, arith}
use Rattle.std.specs.Prelude.{nat_eq, slice_get, All, AllPairs, Contains}
use Rattle.std.proofs.lemmas.Bool.{cases_Bool, eqb-true}
use Rattle.std.proofs.lemmas.List.Elements.{All-weaker}
use Rattle.std.proofs.lemmas.List.Kept.{AllPairs-cons}
use Rattle.std.proofs.lemmas.Option.{slice_get_within}
use Rattle.cost_vector.specs.declared.label.ArcNo.{ArcNo}
use Rattle.arc_graph.specs.Graph.{numbers_from}
use Rattle.list_laws.proofs.Members.{in_none, in_front, in_rest, cases_in, all_from_in}
use Rattle.list_laws.proofs.Pairs.{pairs_none}

-- an arc with this tail has its number there
pub in_numbers : (k : ℕ) (es : List (ℕ × ℕ)) (tail i head : ℕ) → slice_get es i ≡ Some (tail, head) → Contains (numbers_from k es tail) (record { 0 = k + i })
in_numbers k [] tail i head e = cc
in_numbers k (x ∷ es) tail zero head e =
    let same : x.0 ≡ tail = ap (λ (o : Option (ℕ × ℕ)). first o) e in
    rw (eq-eqb x.0 tail same) (in_front _ _ _ (ap (λ (n : ℕ). record { 0 = n }) (omega arith))) where
      first : Option (ℕ × ℕ) → ℕ
      first None = tail
      first (Some p) = p.0
in_numbers k (x ∷ es) tail (suc i) head e =
    let place : k + 1 + i ≡ k + suc i = omega arith in
    let more = numbers_from (k + 1) es tail in
    let rest : Contains more (record { 0 = k + suc i }) = subst (λ n. Contains more (record { 0 = n })) place (in_numbers (k + 1) es tail i head e) in
    elim (nat_eq x.0 tail) as (λ t. Contains (cond t (record { 0 = k } ∷ more) more) (record { 0 = k + suc i }))
    [ true ↦ in_rest (record { 0 = k }) more (record { 0 = k + suc i }) rest | false ↦ rest ]

-- the place of an arc in the list, and the arc there
pub record StandsAt (k : ℕ) (es : List (ℕ × ℕ)) (tail : ℕ) (a : ArcNo) : Type 0 where
  pub place : ℕ
  pub head : ℕ
  pub number : a.0 ≡ k + place
  pub ends : slice_get es place ≡ Some (tail, head)

later : (k : ℕ) (x : ℕ × ℕ) (es : List (ℕ × ℕ)) (tail : ℕ) (a : ArcNo) → StandsAt (k + 1) es tail a → StandsAt k (x ∷ es) tail a
later k x es tail a rest = record { place = suc rest.place; head = rest.head; number = rest.number ∙ (omega arith); ends = rest.ends }

-- and no other number is there
pub of_numbers : (k : ℕ) (es : List (ℕ × ℕ)) (tail : ℕ) (a : ArcNo) → Contains (numbers_from k es tail) a → StandsAt k es tail a
of_numbers k [] tail a h = absurd (in_none a h)
of_numbers k (x ∷ es) tail a h = elim (cases_Bool (nat_eq x.0 tail)) [
  | inr other ↦ later k x es tail a (of_numbers (k + 1) es tail a (rw other at h))
  | inl same ↦ let first_or_more : Contains (record { 0 = k } ∷ numbers_from (k + 1) es tail) a = rw same at h in
      elim (cases_in (record { 0 = k }) (numbers_from (k + 1) es tail) a first_or_more) [
        | inl first ↦ record {
          place = 0;
          head = x.1;
          number = ap (λ (n : ArcNo). n.0) first ∙ (omega arith);
          ends = ap (λ t. Some (t, x.1)) (eqb-true x.0 tail same);
        }
        | inr more ↦ later k x es tail a (of_numbers (k + 1) es tail a more)
      ]
]

-- no number is below that of the list's first arc
pub numbers_above : (k : ℕ) (es : List (ℕ × ℕ)) (tail : ℕ) → All (λ a. k ≤ a.0) (numbers_from k es tail)
numbers_above k es tail = all_from_in (λ a. k ≤ a.0) (numbers_from k es tail) (λ a there. omega (arith, (of_numbers k es tail a there).number))

-- each is that of one of the graph's arcs
pub number_within : (ends : List (ℕ × ℕ)) (tail : ℕ) (arcs : List ArcNo) (i : ℕ) (a : ArcNo) → arcs ≡ numbers_from 1 ends tail → i < length arcs
    → a ≡ get_or arcs i a → (1 ≤ a.0) × (a.0 ≤ length ends)
number_within ends tail arcs i a all within is =
    let at = of_numbers 1 ends tail a (subst (λ ns. Contains ns a) all (i, within, sym is)) in
    let inside = slice_get_within ends at.place (tail, at.head) at.ends in
    (omega (arith, at.number), omega (arith, at.number, inside))

-- they ascend
pub numbers_ascend : (k : ℕ) (es : List (ℕ × ℕ)) (v : ℕ) → AllPairs (λ a b. a.0 < b.0) (numbers_from k es v)
numbers_ascend k [] v = pairs_none (λ (a b : ArcNo). a.0 < b.0)
numbers_ascend k (e ∷ es) v =
    let rest = numbers_ascend (k + 1) es v in
    let above : All (λ (a : ArcNo). k < a.0) (numbers_from (k + 1) es v) =
    All-weaker (λ (a : ArcNo). k + 1 ≤ a.0) (λ a. k < a.0) (λ a h. omega (arith, h)) (numbers_from (k + 1) es v) (numbers_above (k + 1) es v) in
    elim (nat_eq e.0 v) as (λ t. AllPairs (λ a b. a.0 < b.0) (cond t (record { 0 = k } ∷ numbers_from (k + 1) es v) (numbers_from (k + 1) es v)))
    [ true ↦ AllPairs-cons (λ a b. a.0 < b.0) (record { 0 = k }) (numbers_from (k + 1) es v) above rest | false ↦ rest ]
