-- What became of all lanes that served doors.
use Rattle.std.proofs.Common.{◌≡◌, ℕ, ◌≤◌, List, [], ◌∷◌, ◌++◌, append-nil, map, refl, ap, sym, subst, ◌∙◌, arith}
use Rattle.std.specs.List.{All, AllPairs, flat_map}
use Rattle.std.proofs.lemmas.Grind.{flat_map-append}
use Rattle.std.proofs.lemmas.List.{map-append}
use Rattle.std.proofs.lemmas.List.Concat.{flat_map-cons}
use Rattle.std.proofs.lemmas.List.Elements.{All-append, All-cons, All-nil, All-weaker}
use mathlib.Core.List.{IsPrefix}
use Rattle.list_laws.proofs.Members.{each_in}
use Rattle.list_laws.proofs.OnceLaws.{pairs_append}
use Rattle.list_laws.proofs.Pairs.{pairs_none}
use Rattle.arc_graph.specs.History.{History}
use Rattle.epoch_store.specs.Origin.{IsPublishedIn, last_number}
use Rattle.epoch_store.proofs.PrefixLemmas.{prefix_trans}
use Rattle.session_core.specs.declared.context.LinkPolicy.{LinkPolicy}
use Rattle.session_core.specs.Exchanges.{numbers_named}
use Rattle.session_core.specs.Sessions.{Scene, Session}
use Rattle.session_core.proofs.StayLemmas.{last_grows, run_stays}
use Rattle.route_lanes.specs.Serving.{IsServedOver, SessionLink, SessionVisit}
use Rattle.route_lanes.specs.Visits.{Led, Visit, then, unvisited}

-- the links of a session's lane over a history that goes on from what the session saw in the end
pub record ServedOver (scene : Scene) (policy : LinkPolicy) (whole : History) (last : Session) (visits : List Visit) : Type 0 where
  pub links : List SessionLink
  pub visits_are : visits ≡ map (λ link. link.visit) links
  pub each : All (IsServedOver scene policy whole) links
  pub ascending : AllPairs ◌≤◌ (flat_map (λ link. link.named) links)
  pub below : All (λ n. n ≤ last_number scene.origin last.seen) (flat_map (λ link. link.named) links)

module _ (scene : Scene) (policy : LinkPolicy) (whole : History) (allowed : IsPublishedIn scene.origin whole) where
  -- what a session served over what it had seen, it served over the whole history
  one_over : (old new : Session) (visit : Visit) (is : SessionVisit scene policy old visit.before visit.after visit.end new)
      → IsPrefix new.seen whole → IsServedOver scene policy whole (record { visit = visit; named = numbers_named is.exchanges })
  one_over old new visit is begins = record {
    exchanges = is.exchanges;
    runs = record {
      run = run_stays scene [] old.seen new.seen whole is.exchanges is.runs.run (old.seen, refl) begins allowed.history;
      named = refl;
    };
    each = is.each;
    no_foreign = is.no_foreign;
    lines = is.lines;
    wanted = is.wanted;
    wants = is.wants;
    sent = is.sent;
    reads = is.reads;
    writes = is.writes;
  }

  -- one link more
  over_more : (visits : List Visit) (old new : Session) (visit : Visit) → ServedOver scene policy whole old visits
      → SessionVisit scene policy old visit.before visit.after visit.end new → IsPrefix new.seen whole
      → ServedOver scene policy whole new (visits ++ visit ∷ [])
  over_more visits old new visit so_far is begins =
      let named : SessionLink → List ℕ = λ link. link.named in
      let link : SessionLink = record { visit = visit; named = numbers_named is.exchanges } in
      let numbers = flat_map named so_far.links in
      let run = is.runs.run in
      let above : ℕ → Type 0 = λ n. last_number scene.origin old.seen ≤ n in
      let older : ℕ → Type 0 = λ n. n ≤ last_number scene.origin old.seen in
      let newer : ℕ → Type 0 = λ n. n ≤ last_number scene.origin new.seen in
      let grows = last_grows scene.origin old.seen new.seen run.begins in
      let last : flat_map named (link ∷ []) ≡ link.named = flat_map-cons named link [] ∙ append-nil link.named in
      let both : flat_map named (so_far.links ++ link ∷ []) ≡ numbers ++ link.named =
      flat_map-append named so_far.links (link ∷ []) ∙ ap (λ (more : List ℕ). numbers ++ more) last in
      let pairs = pairs_append ◌≤◌ numbers link.named so_far.ascending run.ascending
      (λ x y there then. let low = each_in older numbers so_far.below x there in let high = each_in above link.named run.above y then in omega (arith, low, high)) in
      let under = All-append newer numbers link.named (All-weaker older newer (λ n below. omega (arith, below, grows)) numbers so_far.below) run.below in
      record {
        links = so_far.links ++ link ∷ [];
        visits_are = ap (λ (vs : List Visit). vs ++ visit ∷ []) so_far.visits_are ∙ sym (map-append (λ (l : SessionLink). l.visit) so_far.links (link ∷ []));
        each = All-append (IsServedOver scene policy whole) so_far.links (link ∷ []) so_far.each
            (All-cons (IsServedOver scene policy whole) link [] (one_over old new visit is begins) (All-nil (IsServedOver scene policy whole)));
        ascending = subst (AllPairs ◌≤◌) (sym both) pairs;
        below = subst (All newer) (sym both) under;
      }

  -- all links of a session's lane
  pub served_over : {visits : List Visit} {last : Session} → Led (SessionVisit scene policy) (record { seen = []; named = [] }) visits last
      → IsPrefix last.seen whole → ServedOver scene policy whole last visits
  served_over unvisited begins = record {
    links = [];
    visits_are = refl;
    each = All-nil (IsServedOver scene policy whole);
    ascending = pairs_none ◌≤◌;
    below = All-nil (λ n. n ≤ last_number scene.origin []);
  }
  served_over {last} (then {visits} {mid} visit led is) begins =
      let before = served_over led (prefix_trans mid.seen last.seen whole is.runs.run.begins begins) in
      over_more visits mid last visit before is begins
