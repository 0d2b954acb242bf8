-- How many labels are settled once the next ones are taken.
use Rattle.std.proofs.Common.{◌≡◌, ◌≢◌, ℕ, ◌+◌, ◌<◌, ◌≤◌, List, [], ◌++◌, length, map, refl, sym, ap, subst, arith}
use Rattle.std.specs.Prelude.{AllPairs, Contains}
use Rattle.std.proofs.lemmas.List.{length-append, length-map}
use Rattle.list_laws.specs.Sets.{HasMoreThan, ListsOnce}
use Rattle.list_laws.proofs.Members.{each_in, in_map, of_map}
use Rattle.list_laws.proofs.OnceLaws.{lists_append, more_of_map}
use Rattle.list_laws.proofs.Pairs.{pairs_map, pigeonhole}
use Rattle.list_laws.proofs.SetLaws.{more_by_list}
use Rattle.event_machine.specs.Machine.{Task, SearchState, HasSettled}
use Rattle.event_machine.specs.Orders.{IsBegun}
use Rattle.event_machine.proofs.Sound.{cases_label}
use Rattle.event_machine.proofs.Keeping.{settled_once}
use Rattle.bulk_rounds.specs.Begins.{TakesNext, WouldPass}
use Rattle.bulk_rounds.specs.Cores.{Core, IsSettledIn, Spot}
use Rattle.bulk_rounds.specs.Standing.{IsAt, as_spot}
use Rattle.bulk_rounds.specs.Taking.{CountsSettled, IsNextIn, ListsNext}
use Rattle.bulk_rounds.proofs.SpentLemmas.{ascending_once, spot_by_parts}
use Rattle.bulk_rounds.proofs.BegunLemmas.{now_settled, reached_by_begins}
use Rattle.bulk_rounds.proofs.KeptLemmas.{next_unsettled}

module _ (task : Task) (before : Core) (s next : SearchState) (none : before.taken ≡ []) (at : IsAt task before s) (begun : IsBegun task s next)
    (took : List Spot) (lists : ListsNext before took) (count : ℕ) (counts : CountsSettled before count) where
  abbrev spots : List Spot
  spots = counts.spots ++ took

  -- what is settled then, each once
  settled_then : ListsOnce (λ x. HasSettled next x.node x.cost) spots
  settled_then = lists_append (IsSettledIn before) (IsNextIn before) (λ x. HasSettled next x.node x.cost) counts.spots took
      (now_settled task before s at none next begun) (λ x old is_next. next_unsettled before x is_next old) counts.once
      (record { exact = lists.exact; once = ascending_once took lists.ascending })

  pub more_then : (budget : ℕ) → budget < count + length took → HasMoreThan budget next.settled
  more_then budget beyond =
      more_of_map cases_label as_spot budget next.settled (more_by_list budget (map as_spot next.settled) spots settled_then.once
      (λ x there.
      let h = (settled_then.exact x).0 there in
      subst (Contains (map as_spot next.settled)) (spot_by_parts (as_spot h.label) x h.node h.cost) (in_map as_spot next.settled h.label h.settled))
      (omega (arith, beyond, length-append counts.spots took, counts.counted)))

  pub within_then : (budget : ℕ) → count + length took ≤ budget → ¬ HasMoreThan budget next.settled
  within_then budget within more =
      let apart : AllPairs (λ x y. as_spot x ≢ as_spot y) more.members = λ i j d before_j within_j same.
      more.distinct i j d before_j within_j (settled_once task at.search.is_task next (reached_by_begins task before s at none next begun) _ _
      (more.each i d (omega (arith, before_j, within_j))) (more.each j d within_j)
      (record { node = ap (λ (z : Spot). z.node) same; cost = ap (λ (z : Spot). z.cost) same })) in
      let once = pairs_map (λ x y. as_spot x ≢ as_spot y) ◌≢◌ as_spot (λ x y other. other) more.members apart in
      let least = pigeonhole (map as_spot more.members) spots once (λ x there.
      let (y, y_in, same) = of_map as_spot more.members x there in
      subst (Contains spots) (sym same) ((settled_then.exact (as_spot y)).1
      (record { label = y; settled = each_in (Contains next.settled) more.members more.each y y_in; node = refl; cost = refl }))) in
      omega (arith, least, length-map more.members as_spot, more.more, length-append counts.spots took, counts.counted, within)

-- the budget holds
pub within_budget : (task : Task) (before after : Core) (s next : SearchState) → before.taken ≡ [] → TakesNext before after → IsAt task before s
    → IsBegun task s next → ¬ HasMoreThan before.budget next.settled
within_budget task before after s next none takes at begun =
    within_then task before s next none at begun after.taken takes.taken takes.count takes.counts before.budget takes.within

-- the budget is passed
pub passes_budget : (task : Task) (before : Core) (s next : SearchState) → before.taken ≡ [] → WouldPass before → IsAt task before s
    → IsBegun task s next → HasMoreThan before.budget next.settled
passes_budget task before s next none would at begun =
    more_then task before s next none at begun would.next would.lists would.count would.counts before.budget would.beyond
