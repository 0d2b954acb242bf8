-- When a request to the operator is refused, and how. Want of memory may come at any time.
use Rattle.std.specs.Prelude.{◌≡◌, ℕ, ◌≤◌, ◌<◌, List, length, All}
use Rattle.arc_graph.specs.History.{Operator, max_pending}
use Rattle.road_network.specs.Limits.{max_epoch}
use Rattle.epoch_store.specs.Origin.{Origin, arcs_of, last_number}
use Rattle.epoch_store.specs.declared.fault.SetFault.{SetFault}
use Rattle.epoch_store.specs.declared.fault.SetFault.TheVariants as set
use Rattle.epoch_store.specs.declared.fault.ShutFault.{ShutFault}
use Rattle.epoch_store.specs.declared.fault.ShutFault.TheVariants as shut
use Rattle.epoch_store.specs.declared.fault.PublishFault.{PublishFault}
use Rattle.epoch_store.specs.declared.fault.PublishFault.TheVariants as publish

-- the number is that of one of so many arcs
abbrev pub HasArc : ℕ → ℕ → Type 0
HasArc arcs k = (1 ≤ k) × (k ≤ arcs)

-- all weights are 0
abbrev pub IsZero : List ℕ → Type 0
IsZero w = All (λ x. x ≡ 0) w

-- one change more may be pending
abbrev pub MayPend : Operator → Type 0
MayPend o = length o.pending < max_pending

-- an arc may be given these weights
abbrev pub MaySet : Origin → Operator → ℕ → List ℕ → Type 0
MaySet o operator k w = HasArc (arcs_of o) k × (¬ IsZero w) × MayPend operator

-- an arc may be shut
abbrev pub MayShut : Origin → Operator → ℕ → Type 0
MayShut o operator k = HasArc (arcs_of o) k × MayPend operator

-- why an arc isn't given these weights
abbrev pub HasSetFault : Origin → Operator → ℕ → List ℕ → SetFault → Type 0
HasSetFault o operator k w set.Arc = ¬ HasArc (arcs_of o) k
HasSetFault o operator k w set.Zero = HasArc (arcs_of o) k × IsZero w
HasSetFault o operator k w set.Full = HasArc (arcs_of o) k × (¬ IsZero w) × (¬ MayPend operator)
HasSetFault o operator k w (set.OutOfMemory want) = Unit {0}

-- why an arc isn't shut
abbrev pub HasShutFault : Origin → Operator → ℕ → ShutFault → Type 0
HasShutFault o operator k shut.Arc = ¬ HasArc (arcs_of o) k
HasShutFault o operator k shut.Full = HasArc (arcs_of o) k × (¬ MayPend operator)
HasShutFault o operator k (shut.OutOfMemory want) = Unit {0}

-- an epoch may follow
abbrev pub MayPublish : Origin → Operator → Type 0
MayPublish o operator = last_number o operator.published < max_epoch

-- why no epoch is published
abbrev pub HasPublishFault : Origin → Operator → PublishFault → Type 0
HasPublishFault o operator publish.LastEpoch = ¬ MayPublish o operator
HasPublishFault o operator (publish.OutOfMemory want) = Unit {0}
