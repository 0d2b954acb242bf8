use Rattle.std.proofs.Common.{◌≡◌, ℕ, List, ap, ap₂, sym, subst, ◌∙◌, arith}
use Rattle.std.proofs.lemmas.Bool.Decides.{nat_tests}
use mathlib.Core.List.{IsPrefix}
use Rattle.arc_graph.specs.History.{History}
use Rattle.epoch_store.specs.Chronicle.{latest}
use Rattle.epoch_store.specs.Published.{Drawn}
use Rattle.epoch_store.proofs.PrefixLemmas.{prefix_same}
use Rattle.epoch_store.proofs.chronicle.Witness.agrees.Goals as goal

abbrev drawn_at : ℕ → List History → Drawn
drawn_at place log = record { place = place; history = latest log }

pub returns : goal.returns
returns g c = (
  λ same.
      let xs : List History = c.self.inside.seen.log in
      let ys : List History = c.other.inside.seen.log in
      let both : List History = c.learn.new.self.log in
      let this : IsPrefix xs both = subst (λ (l : List History). IsPrefix l both) (ap (λ s. s.log) c.again-both.ensures) c.learn.ensures.2 in
      let places : c.self.inside.place ≡ c.other.inside.place = grind (arith, nat_tests) in
      let equal : xs ≡ ys = prefix_same xs ys both this c.learn.ensures.3 (omega (arith, c.self.invariant.0, c.other.invariant.0)) in
      let drawn : drawn_at c.self.inside.place xs ≡ drawn_at c.other.inside.place ys = ap₂ drawn_at places equal in
      rw (← c.self.view_is, ← c.other.view_is) drawn,
  λ same.
      let places : c.self.inside.place ≡ c.other.inside.place = ap (λ (d : Drawn). d.place) (c.self.view_is ∙ same ∙ sym c.other.view_is) in
      grind (arith, nat_tests),
)
