-- The five rules of a certificate, and at which label they fail. Labels are numbered from 1; the number 0 stands for the
-- list as a whole.
use Rattle.std.specs.Prelude.{◌≡◌, ◌≢◌, ℕ, zero, suc, ◌<◌, List, Contains, IsSomeAnd, slice_get}
use Rattle.cost_vector.specs.Costs.{plus}
use Rattle.road_network.specs.Labels.{Label}
use Rattle.road_network.specs.Network.{Network, Leads}
use Rattle.road_network.specs.Walks.{EndsBy}
use Rattle.cert_rules.specs.declared.rule.Rule.{Rule}
use Rattle.cert_rules.specs.declared.rule.Rule.TheVariants.{Start, Arrival, Departure, LeastArc, Undominated}
use Rattle.cert_rules.specs.Certificates.{Certificate, IsListed, IsCovered, IsBeaten, start_label}

-- the number of a rule
abbrev pub rule_number : Rule → ℕ
rule_number Start = 1
rule_number Arrival = 2
rule_number Departure = 3
rule_number LeastArc = 4
rule_number Undominated = 5

-- for some arc that leads on from the label's node this holds of its number, its head and the cost there
pub record ForSomeArc (net : Network) (l : Label) (P : ℕ → ℕ → List ℕ → Type 0) : Type 0 where
  pub arc : ℕ
  pub at : ℕ
  pub by : List ℕ
  pub leads : Leads net arc l.node by at
  pub holds : P arc at (plus l.cost by)

-- this cost is listed at the node with an arc greater than k
pub record IsListedAbove (labels : List Label) (k v : ℕ) (c : List ℕ) : Type 0 where
  pub arc : ℕ
  pub greater : k < arc
  pub listed : Contains labels (record { node = v; cost = c; arc = arc })

-- The rule fails at a listed label:
-- start: its arc is 0, and it isn't the start at cost zero;
-- arrival: its arc isn't 0, and doesn't lead into its node, or the cost less the arc's vector isn't a cost, or the arc's
-- tail with that cost isn't listed;
-- departure: for some out arc of its node, no listed cost of the head is at most its cost plus the arc's vector, and no
-- listed cost of the target dominates that sum;
-- least arc: for some out arc of its node, that sum is listed at the head with a greater arc;
-- undominated: a listed cost of its node dominates its cost.
abbrev pub FailsAt : Network → Certificate → Rule → Label → Type 0
FailsAt net cert Start l = (l.arc ≡ 0) × (l ≢ start_label net cert)
FailsAt net cert Arrival l = (l.arc ≢ 0) × ¬ EndsBy net l.arc l.node (IsListed cert.labels) l.cost
FailsAt net cert Departure l =
    ForSomeArc net l (λ k v c. (¬ IsCovered cert.labels v c) × (¬ IsBeaten cert.labels cert.target c))
FailsAt net cert LeastArc l = ForSomeArc net l (IsListedAbove cert.labels)
FailsAt net cert Undominated l = IsBeaten cert.labels l.node l.cost

-- The rule fails at the label of this number; for the list as a whole, the first one where the start at cost zero isn't
-- listed with arc 0.
abbrev pub Fails : Network → Certificate → Rule → ℕ → Type 0
Fails net cert rule zero = (rule ≡ Start) × (¬ Contains cert.labels (start_label net cert))
Fails net cert rule (suc i) = IsSomeAnd (slice_get cert.labels i) (FailsAt net cert rule)

-- It fails there, no rule fails at a label before, and no lesser rule at this one.
pub record IsFirstFailure (net : Network) (cert : Certificate) (rule : Rule) (i : ℕ) : Type 0 where
  pub fails : Fails net cert rule i
  pub first : (other : Rule) (j : ℕ) → j < i → ¬ Fails net cert other j
  pub least : (other : Rule) → rule_number other < rule_number rule → ¬ Fails net cert other i

-- no rule fails anywhere
abbrev pub HasNoFailure : Network → Certificate → Type 0
HasNoFailure net cert = (rule : Rule) (i : ℕ) → ¬ Fails net cert rule i
