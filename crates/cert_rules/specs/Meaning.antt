-- What a certificate shows, and what lists the labels of a search.
use Rattle.std.specs.Prelude.{ℕ, List, ◌++◌, ◌↔◌, Contains}
use Rattle.cost_vector.specs.Costs.{no_limit}
use Rattle.road_network.specs.Answers.{IsRelevant}
use Rattle.road_network.specs.Best.{IsBest}
use Rattle.road_network.specs.Labels.{Label, HasLeastArc}
use Rattle.road_network.specs.Network.{Network}
use Rattle.road_network.specs.Walks.{IsWalk}
use Rattle.cert_rules.specs.Certificates.{Certificate, IsListed}

-- this cost is listed at the node, and each label of both has the last arc of the backward-least walk
pub record IsListedLeast (net : Network) (cert : Certificate) (v : ℕ) (c : List ℕ) : Type 0 where
  pub arc : ℕ
  pub listed : Contains cert.labels (record { node = v; cost = c; arc = arc })
  pub least : HasLeastArc net cert.start (record { node = v; cost = c; arc = arc })

-- The listed costs of the target are exactly its best costs, each listed cost is a walk's, and wherever a walk of a best
-- cost of the target comes through, that is listed, with its least arc.
pub record ShowsAnswer (net : Network) (cert : Certificate) : Type 0 where
  pub costs : (c : List ℕ) → IsListed cert.labels cert.target c ↔ IsBest net cert.start cert.target c
  pub walked : (v : ℕ) (c : List ℕ) → IsListed cert.labels v c → (p : List ℕ) × IsWalk net cert.start p v c
  pub on_the_way : (p q : List ℕ) (v : ℕ) (b c : List ℕ) → IsWalk net cert.start (p ++ q) cert.target c
      → IsBest net cert.start cert.target c → IsWalk net cert.start p v b → IsListedLeast net cert v b

-- The listed labels are exactly the relevant pairs of the query without limits, each with the last arc of its
-- backward-least walk.
pub record ListsRelevant (net : Network) (cert : Certificate) : Type 0 where
  pub relevant : (v : ℕ) (c : List ℕ)
      → IsListed cert.labels v c ↔ IsRelevant net cert.start cert.target (no_limit net.criteria) v c
  pub least : (l : Label) → Contains cert.labels l → HasLeastArc net cert.start l
