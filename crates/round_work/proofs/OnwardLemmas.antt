-- Where a search goes on from a node by some of its arcs, and from some of what was taken; and what comes of pieces together.
use Rattle.std.proofs.Common.{◌≡◌, ◌≢◌, ℕ, ◌+◌, ◌*◌, ◌<◌, ◌≤◌, List, [], ◌∷◌, ◌++◌, Some, None, length, map, get_or, take, refl, sym, arith}
use Rattle.std.proofs.Common.{append-nil, suc, Option, inl, inr, length-drop, drop, subst, zero-mul}
use Rattle.std.specs.Prelude.{All, filter, not, nat_eq, slice_get, flat_map, Contains}
use Rattle.std.specs.List.{filter_map}
use Rattle.std.proofs.lemmas.List.{get_or_default, map-append, take_more, append-nil, append_assoc, drop-drop, drop_all, take-append-drop}
use Rattle.std.proofs.Math.Seq.{take-add}
use Rattle.std.proofs.lemmas.List.Concat.{flat_map-append}
use Rattle.std.proofs.lemmas.List.Elements.{All-append, All-cons, All-nil, Contains-get_or, filter-append, filter_map-append}
use Rattle.cost_vector.specs.Costs.{plus}
use Rattle.cost_vector.specs.declared.label.ArcNo.{ArcNo}
use Rattle.cost_vector.specs.declared.label.Label.{Label}
use Rattle.list_laws.proofs.Members.{in_filter, in_filter_map, in_map, all_got}
use Rattle.road_network.specs.Network.{Network}
use Rattle.arc_graph.specs.Graph.{arc_state, head_of, label_by, out_arcs_of}
use Rattle.arc_graph.proofs.NumbersLemmas.{number_within}
use Rattle.waiting_item.specs.declared.item.Item.{Item}
use Rattle.waiting_item.specs.Waiting.{Spot, Waiting, as_waiting, spot_of}
use Rattle.round_work.specs.Onward.{IsTooWide, onward, reached_from}
use Rattle.round_work.specs.Pieces.{Appends, AreWithRoom, items_of, onward_in, piece_size, AppendsFound, GivesIfRoom, found_in}
use Rattle.std.proofs.lemmas.Option.{slice_get_read}
use Rattle.std.specs.Global.{Vec}
use Rattle.work_claim.specs.Results.{GivesAll}
use Rattle.waiting_queue.proofs.ShadowLemmas.{in_parts}

-- one element more
pub take_next : {X : Type 0} (xs : List X) (i : ℕ) (x : X) → i < length xs → x ≡ get_or xs i x → take (i + 1) xs ≡ take i xs ++ x ∷ []
take_next xs i x within at = rw (take_more xs i x within, ← at) refl

-- what stands in a part of a list stands in the list
pub in_cut : {X : Type 0} (xs ys : List X) (first size i : ℕ) (x : X) → ys ≡ take size (drop first xs) → i < length ys → x ≡ get_or ys i x → Contains xs x
in_cut xs ys first size i x cut within at = (in_parts xs first x).1 (inr ((in_parts (drop first xs) size x).1
    (inl (subst (λ zs. Contains zs x) cut (i, within, sym at)))))

-- at first nothing is appended
pub appends_none : {X : Type 0} (Gives : List X → Type 0) (xs : List X) → Gives [] → Appends Gives xs xs
appends_none Gives xs none = record { more = []; whole = sym (append-nil xs); gives = none }

-- K says what may come of a list, and of two together if of each
module _ {A B : Type 0} (K : List A → List B → Type 0) (both : (xs ys : List A) (ks ls : List B) → K xs ks → K ys ls → K (xs ++ ys) (ks ++ ls)) where
  -- what is appended for one and then for another is appended for both
  pub appends_both : (xs ys : List A) {before now after : List B} → Appends (K xs) before now → Appends (K ys) now after → Appends (K (xs ++ ys)) before after
  appends_both xs ys {before} one two = record {
    more = one.more ++ two.more;
    whole = rw (two.whole, one.whole) (append_assoc before one.more two.more);
    gives = both xs ys one.more two.more one.gives two.gives;
  }

  -- all pieces of so many elements
  pub all_pieces : {O : Type 0} (tell : O → List B) → K [] [] → (size : ℕ) (xs : List A) (outs : List O) → length xs ≤ length outs * size
      → ((i : ℕ) (out : O) → slice_get outs i ≡ Some out → K (take size (drop (i * size) xs)) (tell out)) → K xs (flat_map tell outs)
  all_pieces tell none size xs [] long each = rw (drop_all 0 xs (omega (arith, long))) none
  all_pieces tell none size xs (out ∷ outs) long each =
      let rest = all_pieces tell none size (drop size xs) outs (omega (arith, long, length-drop size xs)) (λ i o is.
      let further : suc i * size ≡ size + i * size = omega arith in rw drop-drop (rw further at (each (suc i) o is))) in
      rw take-append-drop at (both (take size xs) (drop size xs) (tell out) (flat_map tell outs) (rw (zero-mul size) at (each 0 out refl)) rest)

  -- where each was found, all stand behind one another, and one that wasn't tells that there is no room
  pub all_found : (TooWide : Type 0) → K [] [] → (size : ℕ) (xs : List A) (pieces : ℕ) (outs : List (Option (Vec B))) → length xs ≤ pieces * size
      → GivesAll (λ i out. GivesIfRoom TooWide (K (take size (drop (i * size) xs))) out) pieces outs
      → ((before after : List B) → before ≡ [] → AppendsFound outs before after → K xs after) × (Contains outs None → TooWide)
  all_found TooWide none size xs pieces outs long given = (
    λ before after empty appends. rw (appends.whole, empty) (all_pieces found_in none size xs outs (rw given.count long) (λ i out is.
        let some = all_got (λ o. o ≢ None) outs i out appends.each is in let gives = given.each i out is in grind arith)),
    λ (i, within, is). given.each i None (slice_get_read outs (length outs) i None refl within (sym is)),
  )

-- the arcs that lead from a node
module _ (ends : List (ℕ × ℕ)) (tail : ℕ) (arcs : List ArcNo) (i : ℕ) (d : ArcNo) (are : arcs ≡ out_arcs_of ends tail) (within : i < length arcs) where
  -- their numbers are counted from 1
  pub counted : 1 ≤ (get_or arcs i d).0
  counted = (number_within ends tail arcs i (get_or arcs i d) are within (get_or_default arcs i d (get_or arcs i d) within)).0

  -- and are those of arcs of the network
  pub there : (get_or arcs i d).0 ≤ length ends
  there = (number_within ends tail arcs i (get_or arcs i d) are within (get_or_default arcs i d (get_or arcs i d) within)).1

module _ (net : Network) (from u : ℕ) (c : List ℕ) where
  -- where these arcs lead on from u, but for those that lead to the node `from`
  abbrev pub onward_by : List ArcNo → List Waiting
  onward_by arcs = filter (λ x. not (nat_eq x.spot.node from)) (map (reached_from u) (filter_map (label_by net c) arcs))

  -- an arc that leads on, where there is no room
  pub arc_too_wide : (bound : ℕ) (arcs : List ArcNo) (i : ℕ) (d : ArcNo) (v : List ℕ) → i < length arcs → arc_state net.states (get_or arcs i d) ≡ Some v
      → head_of net.ends (get_or arcs i d) ≢ from → ¬ All (λ x. x < bound) (plus c v) → IsTooWide bound (onward_by arcs)
  arc_too_wide bound arcs i d v within state on exceeds =
      let a = get_or arcs i d in
      let l : Label = record { node = record { 0 = head_of net.ends a }; cost = plus c v; arc = a } in
      record {
        one = reached_from u l;
        member = in_filter _ _ (reached_from u l) (in_map (reached_from u) _ l (in_filter_map (label_by net c) arcs a l (Contains-get_or arcs i d within)
            (rw state refl))) (grind (arith, on));
        exceeds = exceeds;
      }

module _ {C : Type 0} (components : C → List ℕ) (bound : ℕ) where
  abbrev Gives : List Waiting → List (Item C) → Type 0
  Gives = AreWithRoom components bound

  -- nothing is given of nothing
  pub gives_none : Gives [] []
  gives_none = search (arith, All-nil)

  gives_both : (ws vs : List Waiting) (ks ls : List (Item C)) → Gives ws ks → Gives vs ls → Gives (ws ++ vs) (ks ++ ls)
  gives_both ws vs ks ls one two = search (arith, map-append, All-append (λ (w : Waiting). All (λ x. x < bound) w.spot.cost) ws vs one.room two.room)

  -- ---- arc by arc

  module _ (net : Network) (from u : ℕ) (c : List ℕ) (arcs : List ArcNo) (i : ℕ) (d : ArcNo) (within : i < length arcs) (before now : List (Item C))
      (is : Appends (Gives (onward_by net from u c (take i arcs))) before now) where
    abbrev arc : ArcNo
    arc = get_or arcs i d

    abbrev Next : List (Item C) → Type 0
    Next = Appends (Gives (onward_by net from u c (take (i + 1) arcs))) before

    more : (ws : List Waiting) (ks : List (Item C)) → onward_by net from u c (arc ∷ []) ≡ ws → Gives ws ks → Next (now ++ ks)
    more ws ks made given = rw (take_more arcs i d within) (appends_both (λ few. Gives (onward_by net from u c few))
        (λ xs ys ks ls one two. simp (filter_map-append, map-append, filter-append) (gives_both _ _ ks ls one two)) (take i arcs) (arc ∷ []) is
        (record { more = ks; whole = refl; gives = rw made given }))

    -- an arc that leads back
    pub arc_leads_back : head_of net.ends arc ≡ from → Appends (Gives (onward_by net from u c (take (i + 1) arcs))) before now
    arc_leads_back back = rw (sym (append-nil now)) (more [] [] (grind (arith, back)) gives_none)

    -- one that is shut, and one that leads on, where there is room
    pub arc_next : (arc_state net.states arc ≡ None → Next now)
        × ((v : List ℕ) (y : Item C) → arc_state net.states arc ≡ Some v → head_of net.ends arc ≢ from → components y.cost ≡ plus c v
        → y.node.0 ≡ head_of net.ends arc → y.from.0 ≡ u → All (λ x. x < bound) (plus c v) → Next (now ++ y ∷ []))
    arc_next = (
      λ shut. rw (sym (append-nil now)) (more [] [] (rw shut refl) gives_none),
      λ v y state on cost node origin room.
          let w : Waiting = record { spot = record { cost = plus c v; node = head_of net.ends arc }; from = u } in
          more (w ∷ []) (y ∷ []) (rw state (grind (arith, on)))
          (record { exact = cc; room = All-cons (λ (x : Waiting). All (λ n. n < bound) x.spot.cost) w [] room gives_none.room }),
    )

  -- ---- what is taken

  module _ (net : Network) where
    abbrev on : List (Item C) → List Waiting
    on = onward_in components net

    -- what two lists give, from what each gives
    pub on_both : (xs ys ks ls : List (Item C)) → Gives (on xs) ks → Gives (on ys) ls → Gives (on (xs ++ ys)) (ks ++ ls)
    on_both xs ys ks ls one two = simp (map-append, flat_map-append) (gives_both _ _ ks ls one two)

    -- one item more
    pub item_more : (ys : List (Item C)) (i : ℕ) (y : Item C) (before now after : List (Item C)) → i < length ys → y ≡ get_or ys i y
        → Appends (Gives (on (take i ys))) before now → Appends (Gives (onward net (as_waiting components y))) now after
        → Appends (Gives (on (take (i + 1) ys))) before after
    item_more ys i y before now after within at one two =
        rw (take_next ys i y within at) (appends_both (λ zs. Gives (on zs)) on_both (take i ys) (y ∷ []) one (rw append-nil two))
