-- What a check tells of a label and of a whole certificate.
use Rattle.std.specs.Prelude.{◌≡◌, ◌⊎◌, ◌↔◌, ◌<◌, ◌≤◌, ℕ, List, Option, Some, None, Contains, IfSome, slice_get}
use Rattle.road_network.specs.Labels.{Label}
use Rattle.road_network.specs.Network.{Network, Leads}
use Rattle.cost_vector.specs.Costs.{plus}
use Rattle.road_network.specs.Walks.{EndsBy}
use Rattle.cert_rules.specs.Certificates.{Certificate, IsCovered, IsBeaten, IsListed}
use Rattle.cert_rules.specs.Rules.{FailsAt, HasNoFailure, IsFirstFailure, IsListedAbove, rule_number}
use Rattle.cert_rules.specs.declared.rule.Rule.{Rule}
use Rattle.cert_rules.specs.declared.rule.Rule.TheVariants.{Departure, LeastArc}

-- a label that has an arc comes of a listed one by it
abbrev pub Comes : Network → List Label → Label → Type 0
Comes net labels l = 1 ≤ l.arc → EndsBy net l.arc l.node (IsListed labels) l.cost

-- no listed cost dominates another of its node
abbrev pub AreUnbeaten : List Label → Type 0
AreUnbeaten labels = (l : Label) → Contains labels l → ¬ IsBeaten labels l.node l.cost

-- The label at the place i is the first whose cost a listed one of its node dominates.
pub record IsFirstBeaten (labels : List Label) (i : ℕ) : Type 0 where
  pub label : Label
  pub at : slice_get labels i ≡ Some label
  pub beaten : IsBeaten labels label.node label.cost
  pub first : (k : ℕ) (l : Label) → slice_get labels k ≡ Some l → k < i → ¬ IsBeaten labels l.node l.cost

-- this is the first such place, if there is one
abbrev pub TellsBeaten : List Label → Option ℕ → Type 0
TellsBeaten labels None = AreUnbeaten labels
TellsBeaten labels (Some i) = IsFirstBeaten labels i

-- for arc k, which leads on from the label's node, this holds of its number, its head and the cost there
pub record ForArc (net : Network) (l : Label) (k : ℕ) (P : ℕ → ℕ → List ℕ → Type 0) : Type 0 where
  pub at : ℕ
  pub by : List ℕ
  pub leads : Leads net k l.node by at
  pub holds : P k at (plus l.cost by)

-- over arc k no listed cost of the head is at most the sum, and no listed cost of the target dominates it
abbrev pub LeadsAstray : Network → Certificate → Label → ℕ → Type 0
LeadsAstray net cert l k =
    ForArc net l k (λ k v c. (¬ IsCovered cert.labels v c) × (¬ IsBeaten cert.labels cert.target c))

-- over arc k the sum is listed with a greater arc
abbrev pub IsListedLater : Network → Certificate → Label → ℕ → Type 0
IsListedLater net cert l k = ForArc net l k (IsListedAbove cert.labels)

-- which of these two the answer for arc k tells
pub record TellsArc (net : Network) (cert : Certificate) (l : Label) (k : ℕ) (result : Option Rule) : Type 0 where
  pub departure : result ≡ Some Departure → LeadsAstray net cert l k
  pub least_arc : result ≡ Some LeastArc → IsListedLater net cert l k
  pub astray : LeadsAstray net cert l k → result ≡ Some Departure
  pub later : IsListedLater net cert l k → result ≡ Some LeastArc
  pub only : IfSome result (λ rule. (rule ≡ Departure) ⊎ (rule ≡ LeastArc))

-- the least rule that fails at the label, if one does
abbrev pub TellsLeast : Network → Certificate → Label → Option Rule → Type 0
TellsLeast net cert l None = (rule : Rule) → ¬ FailsAt net cert rule l
TellsLeast net cert l (Some rule) =
    FailsAt net cert rule l × ((other : Rule) → rule_number other < rule_number rule → ¬ FailsAt net cert other l)

-- the first failure of a certificate, if there is one
abbrev pub TellsFirst : Network → Certificate → Option (Rule × ℕ) → Type 0
TellsFirst net cert None = HasNoFailure net cert
TellsFirst net cert (Some (rule, i)) = IsFirstFailure net cert rule i

-- which of the third and the fourth rule the answer for a label tells: the third where both fail
pub record TellsArcs (net : Network) (cert : Certificate) (l : Label) (result : Option Rule) : Type 0 where
  pub departure : (result ≡ Some Departure) ↔ FailsAt net cert Departure l
  pub least_arc : result ≡ Some LeastArc → FailsAt net cert LeastArc l
  pub none : result ≡ None → ¬ FailsAt net cert LeastArc l
  pub only : IfSome result (λ rule. (rule ≡ Departure) ⊎ (rule ≡ LeastArc))
