-- A new search, in which the start alone waits.
use Rattle.std.proofs.Common.{◌≡◌, ◌≢◌, ◌↔◌, ℕ, ◌≤◌, List, Option, [], ◌∷◌, replicate, refl, sym, ap, ◌∙◌, arith, Contains}
use Rattle.std.proofs.lemmas.List.Elements.{All-nil}
use Rattle.list_laws.proofs.Members.{in_first, in_none, in_one}
use Rattle.list_laws.proofs.Pairs.{pairs_none}
use Rattle.list_laws.proofs.SetLaws.{none_of_empty}
use Rattle.road_network.specs.Limits.{max_budget}
use Rattle.road_network.specs.Network.{IsNode}
use Rattle.bulk_rounds.specs.Cores.{Core, IsNewSearch, IsSettledIn, Item, Spot, Waits, costs_at, start_spot}
use Rattle.bulk_rounds.specs.Kept.{IsKeptItem}
use Rattle.bulk_rounds.specs.Taking.{CountsSettled}
use Rattle.waiting_item.specs.Waiting.{AreCriteria}
use Rattle.bulk_core.specs.Kept.{IsKeptCore}

-- the start, reached at no cost
abbrev pub start_of : ℕ → ℕ → Item
start_of criteria start = record { spot = record { cost = replicate criteria 0; node = start }; from = 0 }

module _ (core : Core) (none : (v : ℕ) → costs_at core v ≡ []) (waits : core.queue ≡ start_of core.criteria core.start ∷ []) where
  none_settled : (x : Spot) → ¬ IsSettledIn core x
  none_settled x = none_of_empty (costs_at core x.node) (none x.node) x.cost

  only_start : (i : Item) → Contains core.queue i → i ≡ start_of core.criteria core.start
  only_start i there = in_one (start_of core.criteria core.start) i (rw waits at there)

  start_waits : (x : Spot) → Waits core x ↔ (x ≡ start_spot core)
  start_waits x = (
    λ (i, there, is). sym is ∙ ap (λ (j : Item). j.spot) (only_start i there),
    λ x_is. (start_of core.criteria core.start, rw waits (in_first (start_of core.criteria core.start) []), sym x_is),
  )

  pub is_new : {nodes target : ℕ} {limit : List (Option ℕ)} → core.nodes ≡ nodes → core.target ≡ target → core.limit ≡ limit → core.taken ≡ []
      → IsNewSearch nodes core.criteria core.start target limit core.budget core
  is_new nodes_are target_is limit_is none_taken = record {
    nodes_are = nodes_are;
    criteria_are = refl;
    start_is = refl;
    target_is = target_is;
    limit_is = limit_is;
    budget_is = refl;
    none_settled = none_settled;
    waiting = start_waits;
    none_taken = none_taken;
  }

  -- it keeps what a search has to
  pub new_is_kept : AreCriteria core.criteria → IsNode core.nodes core.start → IsNode core.nodes core.target → core.budget ≤ max_budget → IsKeptCore core 0 []
  new_is_kept criteria start_node target_node most =
      let items : (i : Item) → Contains core.queue i → IsKeptItem core i = λ i there. rw (only_start i there) (record {
        node = start_node;
        spares = λ e e_in. absurd (none_settled (record { cost = e; node = core.start }) e_in);
        from = λ other. absurd (other refl);
      }) in
      let exact : (x : Spot) → Contains [] x ↔ IsSettledIn core x = λ x. (λ h. absurd (in_none x h), λ h. absurd (none_settled x h)) in
      let counted : CountsSettled core 0 = record { spots = []; once = record { exact = exact; once = pairs_none ◌≢◌ }; counted = refl } in
      search (arith, All-nil)
