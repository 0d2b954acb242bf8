-- The rule of a store, under each kind of step.
use Rattle.std.proofs.Common.{ℕ, ◌+◌, Bool, false, inl, inr, List, refl, subst}
use Rattle.std.specs.Prelude.{slice_set}
use mathlib.Core.List.{IsPrefix}
use Rattle.atomic_table.proofs.Lists.{at_set, at_snoc}
use Rattle.left_right.specs.Register.{Admits, Turns, TurnsAt}
use Rattle.arc_graph.specs.History.{History}
use Rattle.epoch_store.specs.Origin.{Origin}
use Rattle.epoch_store.specs.Published.{Published, Publication, with_publication}
use Rattle.epoch_store.specs.StoreRule.{BeginsWithAll, MayFollow, Looks, Stands, unsighted}
use Rattle.epoch_store.specs.declared.sight.Sight.{Sight}
use Rattle.epoch_store.proofs.PrefixLemmas.{prefix_self, prefix_trans}

-- a new reader has seen nothing
pub new_reader : (o : Origin) → Admits (Stands o) unsighted
new_reader o p views stands = record {
  epoch = stands.epoch;
  seen = λ seat v at. elim (at_snoc views unsighted v seat at) [
    | inl before ↦ stands.seen seat v before
    | inr new ↦ subst (λ (u : Sight). IsPrefix u.seen p.history) new (p.history, refl)
  ];
}

-- where the history goes on, it begins with what was seen before, and with itself
seen_after : (old : History) (new : Sight) (views : List Sight) (seat : ℕ) → IsPrefix old new.seen → BeginsWithAll old views
    → BeginsWithAll new.seen (slice_set views seat new)
seen_after old new views seat grows all j v at = elim (at_set views seat j new v at) [
  | inl mine ↦ subst (λ (u : Sight). IsPrefix u.seen new.seen) mine.1 (prefix_self new.seen)
  | inr other ↦ prefix_trans v.seen old new.seen (all j v other.1) grows
]

-- a reader looks
pub looks : (o : Origin) (last : Bool) (seat : ℕ) (v : Sight) → Turns (Stands o) seat v (λ p. p) (λ v x y w. Looks o last v y w)
looks o last seat v p views stands at =
    let w : Sight = record { looks = v.looks + 1; seen = p.history; last = last } in (
      w,
      record { epoch = stands.epoch; seen = seen_after p.history w views seat (prefix_self p.history) stands.seen },
      record { epoch = stands.epoch; counted = refl; seen = refl; begins = stands.seen seat v at; known = refl },
    )

-- the operator publishes
pub publishes : (o : Origin) (seat : ℕ) (v : Sight) (p : Published) (q : Publication) → MayFollow o p q
    → TurnsAt (Stands o) seat v p (with_publication p q) (λ v x y w. Looks o false v y w)
publishes o seat v p q follows views stands at =
    let epoch = follows.epoch stands.epoch in
    let w : Sight = record { looks = v.looks + 1; seen = q.history; last = false } in (
      w,
      record { epoch = epoch; seen = seen_after p.history w views seat follows.begins stands.seen },
      record {
        epoch = epoch;
        counted = refl;
        seen = refl;
        begins = prefix_trans v.seen p.history q.history (stands.seen seat v at) follows.begins;
        known = refl;
      },
    )
