-- Candidates that ascend by node, the groups into which they are cut, and what is kept of a group and of several.
use Rattle.std.proofs.Common.{Bor, ◌≡◌, ◌≢◌, ◌⊎◌, ℕ, ◌+◌, ◌<◌, ◌≤◌, List, [], ◌∷◌, ◌++◌, length, map, get_or, take, drop, inl, inr, sym, ◌∙◌, arith, append-nil, append_assoc, take-append-drop, length-take, length-drop}
use Rattle.std.specs.Prelude.{AllPairs, Any, Contains, IsPermutation}
use Rattle.std.proofs.Math.Seq.{drop-append_seam, take-append_seam}
use Rattle.std.specs.List.{AllWithin, HoldsAt}
use Rattle.std.proofs.lemmas.List.{map_push, get_or-take, get_or-drop}
use Rattle.std.proofs.lemmas.List.Concat.{flat_map-append}
use Rattle.std.proofs.lemmas.List.Elements.{All-push}
use Rattle.cost_vector.specs.Costs.{AtMost}
use Rattle.list_laws.proofs.Members.{cases_push, found_in}
use Rattle.list_laws.proofs.OnceLaws.{in_append}
use Rattle.list_laws.proofs.Pairs.{pairs_push, pairs_take}
use Rattle.list_laws.proofs.SetLaws.{same_by_permutation}
use Rattle.waiting_item.specs.declared.item.Item.{Item}
use Rattle.waiting_queue.specs.Taking.{AreSorted}
use Rattle.waiting_item.specs.Waiting.{Spot, SpotLess, spot_in}
use Rattle.waiting_queue.proofs.JoiningLemmas.{of_flat, pair_at}
use Rattle.waiting_queue.proofs.ShadowLemmas.{in_parts, pairs_drop, pairs_parts}
use Rattle.round_work.specs.Groups.{AreApart, AreGroups, AscendByNode, HaveOneNode, SplitsGroup, joined}
use Rattle.round_work.specs.Pieces.{Appends}
use Rattle.round_work.specs.Survivors.{KeepsNeeded}
use Rattle.round_work.proofs.SurvivorLemmas.{Done, keeps_beside, keeps_more, keeps_not}
use Rattle.round_work.proofs.OnwardLemmas.{take_next}

module _ {C : Type 0} where
  -- ---- cutting off the first group

  module _ (list : List (Item C)) (sorted : AscendByNode list) (x : Item C) (some : 0 < length list) (read : x ≡ get_or list 0 x)
      (count : ℕ) (within : count ≤ length list) (at_node : AllWithin (λ (l : Item C). l.node.0 ≡ x.node.0) list 0 count)
      (no_more : count < length list → HoldsAt (λ (l : Item C). l.node.0 ≢ x.node.0) list count) where
    positive : 0 < count
    positive = grind (arith, no_more, some, read)

    taken : (l : Item C) → Contains (take count list) l → l.node.0 ≡ x.node.0
    taken l h = grind (arith, at_node h.0 l, length-take count list, get_or-take count list h.0 l)

    later : (l : Item C) → Contains (drop count list) l → x.node.0 < l.node.0
    later l h =
        let far = sorted count (count + h.0) l in
        grind (arith, length-drop count list, get_or-drop count list h.0 l, at_node 0 l, sorted 0 count l, far, no_more, positive)

    -- so many candidates are the first group, and the others are of later nodes
    pub splits_group : (group others : List (Item C)) → group ≡ take count list → others ≡ drop count list → SplitsGroup list group others
    splits_group group others front back = rw (front, back) (record {
      whole = sym (take-append-drop count list);
      some = omega (arith, positive, within, length-take count list);
      first = λ l m h k. taken l h ∙ sym (taken m k);
      behind = λ l m h k same. let less = later m k in let here = taken l h in absurd (omega (arith, less, here, same));
      sorted = pairs_drop (λ l m. l.node.0 ≤ m.node.0) count list sorted;
    })

  -- in another order a group is one still
  pub one_node_moved : (xs ys : List (Item C)) → IsPermutation xs ys → HaveOneNode xs → HaveOneNode ys
  one_node_moved xs ys moved one l m h k = let same = same_by_permutation xs ys moved in one l m ((same l).0 h) ((same m).0 k)

  -- ---- group by group

  -- the groups so far, and what is left of the candidates
  pub record IsCutting (list : List (Item C)) (cut : List (List (Item C))) (rest : List (Item C)) : Type 0 where
    pub groups : AreGroups cut
    pub whole : list ≡ joined cut ++ rest
    pub behind : (g : List (Item C)) → Contains cut g → AreApart g rest
    pub sorted : AscendByNode rest

  -- groups in memory
  abbrev pub lists : List (Bor (List (Item C))) → List (List (Item C))
  lists = map (λ group. group.now)

  -- one group more
  pub cutting_more : (list : List (Item C)) (cut after : List (Bor (List (Item C)))) (rest others : List (Item C)) (group : Bor (List (Item C)))
      → after ≡ cut ++ group ∷ [] → IsCutting list (lists cut) rest → SplitsGroup rest group.now others → IsCutting list (lists after) others
  cutting_more list cut after rest others group longer cutting splits =
      let within : (m : Item C) → Contains group.now m ⊎ Contains others m → Contains rest m = λ m e. rw splits.whole ((in_append group.now others m).1 e) in
      rw (longer, map_push) (record {
        groups = record {
          each = All-push HaveOneNode (lists cut) group.now cutting.groups.each splits.first;
          apart = pairs_push AreApart (lists cut) group.now cutting.groups.apart (λ g there l m h k. cutting.behind g there l m h (within m (inl k)));
        };
        whole = rw (cutting.whole, splits.whole) (simp (flat_map-append, append_assoc, append-nil));
        behind = λ g there l m h k. elim (cases_push (lists cut) group.now g there) [
          | inl old ↦ cutting.behind g old l m h (within m (inr k))
          | inr new ↦ splits.behind l m (rw new at h) k
        ];
        sorted = splits.sorted;
      })

-- two lists, one behind the other
pairs_both : {X : Type 0} (R : X → X → Type 0) (xs ys : List X) → AllPairs R (xs ++ ys)
    → AllPairs R xs × AllPairs R ys × ((x y : X) → Contains xs x → Contains ys y → R x y)
pairs_both R xs ys pairs =
    let front = pairs_take R (length xs) (xs ++ ys) pairs in
    let back = pairs_drop R (length xs) (xs ++ ys) pairs in (
      rw take-append_seam at front,
      rw drop-append_seam at back,
      λ x y h k. pairs_parts R (length xs) (xs ++ ys) x y pairs (rw take-append_seam h)
          (rw drop-append_seam k),
    )

module _ {C : Type 0} (components : C → List ℕ) (Open : Spot → Type 0) where
  abbrev spot : Item C → Spot
  spot = spot_in components

  abbrev Keeps : List (Item C) → List (Item C) → Type 0
  Keeps = KeepsNeeded spot Open

  -- ---- within a group

  module _ (xs : List (Item C)) (sorted : AreSorted spot xs) (i : ℕ) (x : Item C) (within : i < length xs) (at : x ≡ get_or xs i x)
      (before now : List (Item C)) (is : Appends (Keeps (take i xs)) before now) where
    own : drop (length before) now ≡ is.more
    own = rw is.whole (drop-append_seam before is.more)

    abbrev IsBelow : Item C → Type 0
    IsBelow k = AtMost (spot k).cost (spot x).cost

    abbrev Next : List (Item C) → Type 0
    Next = Appends (Keeps (take (i + 1) xs)) before

    not_added : Done spot Open is.more x → Next now
    not_added why =
        let gives = keeps_not spot Open (take i xs) is.more is.gives x why in
        record { more = is.more; whole = is.whole; gives = rw (take_next xs i x within at) gives }

    -- an item is kept, or left out since it isn't open, or since one of its node that costs at most as much was kept
    pub adds_next : HaveOneNode xs
        → (Open (spot x) → AllWithin (λ k. ¬ IsBelow k) (drop (length before) now) 0 (length (drop (length before) now)) → Next (now ++ x ∷ []))
        × ((¬ Open (spot x)) → Next now) × (Any IsBelow (drop (length before) now) → Next now)
    adds_next one = (
      λ held free. record {
        more = is.more ++ x ∷ [];
        whole = rw is.whole (append_assoc before is.more (x ∷ []));
        gives = rw (take_next xs i x within at) (keeps_more spot Open (take i xs) is.more is.gives x
            (λ y h. pair_at (λ a b. ¬ SpotLess (spot b) (spot a)) xs i x y sorted within at h) held
            (λ k d inside. (rw own at free) k d (omega arith) inside));
      },
      λ closed. not_added (inl closed),
      λ any.
          let (k, there, below) = found_in IsBelow is.more (rw own at any) in
          let node = one k x ((in_parts xs i k).1 (inl (is.gives.among k there).0)) (i, within, sym at) in
          not_added (inr (record { by = k; member = there; node = node; at_most = below })),
    )

  -- ---- group by group

  -- what is kept of groups that are apart
  abbrev pub KeepsOfGroups : List (List (Item C)) → List (Item C) → Type 0
  KeepsOfGroups gs ks = AllPairs AreApart gs → Keeps (joined gs) ks

  -- what is kept of all, from what is kept of the first groups and of the others
  pub groups_both : (gs hs : List (List (Item C))) (ks ls : List (Item C)) → KeepsOfGroups gs ks → KeepsOfGroups hs ls → KeepsOfGroups (gs ++ hs) (ks ++ ls)
  groups_both gs hs ks ls one two pairs =
      let (front, back, across) = pairs_both AreApart gs hs pairs in
      let kept = one front in
      let kept_too = two back in
      rw flat_map-append (keeps_beside spot Open (joined gs) (joined hs) ks ls kept kept_too (λ x y h k node.
      let (f, f_in, x_in) = of_flat (λ g. g) gs x (kept.among x h).0 in
      let (b, b_in, y_in) = of_flat (λ g. g) hs y (kept_too.among y k).0 in
      absurd (across f b f_in b_in x y x_in y_in node)))
