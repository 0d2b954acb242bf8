-- What is found at a place, and the walk that is read back there, are the route that the answer has there.
use Rattle.std.proofs.Common.{◌≡◌, ℕ, zero, suc, ◌+◌, ◌-◌, ◌<◌, ◌≤◌, List, [], ◌∷◌, ◌++◌, take, drop, get_or, arith, Option, Some, length, map, refl, sym, ap, ap₂, subst, ◌∙◌}
use Rattle.std.specs.Prelude.{IfSome, slice_get}
use Rattle.std.specs.List.{between, flat_map}
use Rattle.std.proofs.lemmas.List.{drop-map, length-map, take-map, take_all}
use Rattle.std.proofs.lemmas.Slice.{between_from_start}
use Rattle.std.proofs.lemmas.Option.{get_or_from_slice_get}
use Rattle.route_io.specs.declared.fault.WriteFault.{WriteFault}
use Rattle.route_io.specs.Sinks.{SinkState}
use Rattle.cost_vector.specs.declared.label.ArcNo.{ArcNo}
use Rattle.road_network.specs.Network.{Network}
use Rattle.road_network.specs.Best.{IsBackwardLeast}
use Rattle.road_network.specs.Answers.{IsAnswer, Route}
use Rattle.road_network.proofs.AnswerLaws.{one_list}
use Rattle.road_network.proofs.BackwardLaws.{one_backward_least}
use Rattle.list_laws.proofs.Members.{all_got}
use Rattle.walk_readback.specs.Found.{FoundCosts, IsFound, IsOf, IsWellFound}
use Rattle.road_network.specs.declared.query.AnswerKind.{AnswerKind}
use Rattle.road_network.specs.declared.query.Query.{Query}
use Rattle.answer_writer.specs.Replies.{and_arc, and_number, cost_line, first_line, line_of, lines_between, reply_of, walk_line}
use Rattle.answer_writer.specs.Routes.{AreRoutes, TellsRoutes}
use Rattle.answer_writer.specs.Pages.{Cuts, Holds}
use Rattle.answer_writer.specs.Pieces.{walk_text}
use Rattle.answer_writer.proofs.GathersLemmas.{HoldsFirst, more_of_part, part_cut, part_held}

-- the numbers of arcs, as texts
texts_of_arcs : (arcs : List ArcNo) → flat_map and_arc arcs ≡ flat_map and_number (map (λ a. a.0) arcs)
texts_of_arcs [] = refl
texts_of_arcs (a ∷ rest) = ap (λ t. and_number a.0 ++ t) (texts_of_arcs rest)

-- the line of a route, from its arcs
pub text_of_route : (cost : List ℕ) (arcs : List ArcNo) → walk_text cost arcs ≡ walk_line (record { cost = cost; arcs = map (λ a. a.0) arcs })
text_of_route cost arcs = rw (length-map arcs (λ a. a.0), sym (texts_of_arcs arcs)) refl

-- the route whose cost stands at a place
route_of_cost : (routes : List Route) (i : ℕ) (c : List ℕ) → slice_get (map (λ r. r.cost) routes) i ≡ Some c
    → (r : Route) × (slice_get routes i ≡ Some r) × (r.cost ≡ c)
route_of_cost [] i c at = absurd cc
route_of_cost (r ∷ rest) zero c at = (r, refl, cc)
route_of_cost (r ∷ rest) (suc i) c at = route_of_cost rest i c at

-- the lines of routes by their costs
lines_of_costs : (routes : List Route) → flat_map (λ r. cost_line r.cost) routes ≡ flat_map cost_line (map (λ r. r.cost) routes)
lines_of_costs [] = refl
lines_of_costs (r ∷ rest) = ap (λ t. cost_line r.cost ++ t) (lines_of_costs rest)

module _ (net : Network) (f : FoundCosts) (found : IsFound f) (routes : List Route) (its : AreRoutes net f routes) where
  -- the costs that were found are the answer's
  same_costs : map (λ r. r.cost) routes ≡ f.costs
  same_costs =
      one_list net f.start f.target its.limit (map (λ r. r.cost) routes) f.costs its.answer.costs
      (record { ascending = found.ascending; exact = its.well_found.costs })

  -- so are the lines of the costs at any places
  pub same_lines : (from to : ℕ) → flat_map (λ r. cost_line r.cost) (between from to routes) ≡ flat_map cost_line (between from to f.costs)
  same_lines from to =
      lines_of_costs (between from to routes)
      ∙ ap (flat_map cost_line) (sym (ap (take (to - from)) (drop-map (λ r. r.cost) from routes) ∙ take-map (λ r. r.cost) (to - from) (drop from routes))
      ∙ ap (between from to) same_costs)

  same_count : length routes ≡ length f.costs
  same_count = sym (length-map routes (λ r. r.cost)) ∙ ap length same_costs

  -- and so are the walks
  route_at : (i : ℕ) (c p : List ℕ) → slice_get f.costs i ≡ Some c → IfSome (slice_get f.costs i) (λ b. IsBackwardLeast net f.start f.target b p)
      → slice_get routes i ≡ Some (record { cost = c; arcs = p })
  route_at i c p at walk =
      let here = route_of_cost routes i c (ap (λ costs. slice_get costs i) same_costs ∙ at) in
      let least : IsBackwardLeast net f.start f.target c p = subst (λ o. IfSome o (λ b. IsBackwardLeast net f.start f.target b p)) at walk in
      let same = subst (λ b. IsBackwardLeast net f.start f.target b here.0.arcs) here.2
      (all_got (λ r. IsBackwardLeast net f.start f.target r.cost r.arcs) routes i here.0 its.answer.walks here.1) in
      let arcs = one_backward_least net f.start f.target c here.0.arcs p same least in
      here.1 ∙ ap Some (ap₂ (λ b q. record { cost = b; arcs = q }) here.2 arcs)

  module _ (from to i : ℕ) (there : to ≤ length f.costs) where
    within : to ≤ length routes
    within = omega (arith, there, same_count)

    -- the lines of the routes at these places were gathered
    pub routes_held : (old new : SinkState) (before after : List ℕ) → to ≤ i
        → HoldsFirst walk_line (between from to routes) old new before (i - from) after
        → Holds old new (before ++ flat_map walk_line (between from to routes)) after
    routes_held = part_held walk_line routes from to i within

    -- they are gathered one by one, as their walks are read back
    module _ (begun : from ≤ i) (more : i < to) (c : List ℕ) (read arcs : List ArcNo) (same : read ≡ arcs) (at : slice_get f.costs i ≡ Some c)
        (walk : IfSome (slice_get f.costs i) (λ b. IsBackwardLeast net f.start f.target b (map (λ a. a.0) arcs)))
        (old mid new : SinkState) (before held : List ℕ) (first : HoldsFirst walk_line (between from to routes) old mid before (i - from) held) where
      abbrev route : Route
      route = record { cost = c; arcs = map (λ a. a.0) arcs }

      next : route ≡ get_or routes i route
      next = sym (get_or_from_slice_get routes i route route (route_at i c (map (λ a. a.0) arcs) at walk))

      text : walk_text c read ≡ walk_line route
      text = ap (walk_text c) same ∙ text_of_route c arcs

      pub one_route_more : (after : List ℕ) → Holds mid new (held ++ walk_text c read) after
          → HoldsFirst walk_line (between from to routes) old new before (i + 1 - from) after
      one_route_more after line =
          more_of_part walk_line routes from to i within route route begun more next old mid new before held first after
          (subst (λ t. Holds mid new (held ++ t) after) text line)

      pub route_cut : (fault : WriteFault) → Cuts mid new (held ++ walk_text c read) fault
          → Cuts old new (before ++ flat_map walk_line (between from to routes)) fault
      route_cut fault line =
          part_cut walk_line routes from to i within route route begun more next old mid new before held first fault
          (subst (λ t. Cuts mid new (held ++ t) fault) text line)

  module _ (kind : AnswerKind) (epoch : ℕ) (query : Query) (count : ℕ) (counted : count ≡ length f.costs) where
    -- the first line and the lines at all places are the whole reply
    pub whole_reply : first_line epoch query count ++ lines_between kind routes 0 count ≡ reply_of kind epoch query routes
    whole_reply =
        ap (λ n. first_line epoch query n ++ lines_between kind routes 0 n) (counted ∙ sym same_count)
        ∙ ap (λ l. first_line epoch query (length routes) ++ flat_map (line_of kind) l)
        (between_from_start routes (length routes) ∙ take_all (length routes) routes (omega arith))

    -- put on an empty page
    pub reply_on_page : (page : List ℕ) → page ≡ [] → page ++ (first_line epoch query count ++ lines_between kind routes 0 count) ≡ reply_of kind epoch query routes
    reply_on_page page empty = ap (λ p. p ++ (first_line epoch query count ++ lines_between kind routes 0 count)) empty ∙ whole_reply

module _ (net : Network) (query : Query) (f : FoundCosts) (limit : List (Option ℕ)) (of : IsOf net query f) (well : IsWellFound net limit f) where
  -- what was found for a query tells the routes of its answer
  pub tells_routes : IsFound f → TellsRoutes net f
  tells_routes found = record { nodes = of.nodes; criteria = of.criteria; found = found; limit = limit; well_found = well }

  -- which are those between its ends
  pub routes_found : (routes : List Route) → IsAnswer net query.from query.to limit routes → AreRoutes net f routes
  routes_found routes answer = record { limit = limit; well_found = well; answer = rw (sym of.start, sym of.target) at answer }
